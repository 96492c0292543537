-- A channel from the samples of its subframe, before wasted bits are appended.
use Rattle.std.proofs.Common.{◌≡◌, ℕ, zero, suc, ◌-◌, ◌<◌, ◌≤◌, Bool, true, false, cond, eqb, ltb, List, [], ◌∷◌, map, replicate, refl, ap, ◌∙◌, arith, ℤ, pos, ◌*ℤ◌, w32, FitsSigned}
use Rattle.std.proofs.lemmas.Bool.{ltb-true, lt-ltb}
use Rattle.std.proofs.lemmas.Int.{ints, int_wrap_fits}
use Rattle.claxon_format.specs.Bits.{Bits, Signed}
use Rattle.claxon_format.specs.Predict.{wrap}
use Rattle.claxon_format.specs.read.Reading.{Done, and_then, done}
use Rattle.claxon_format.specs.Codes.{Mapped}
use Rattle.claxon_format.specs.read.Subframe.{subframe_body_at, SubframeFields, subframe_header_at, subframe_at}
use Rattle.claxon_format.specs.Subframe.{AllFit, Samples, Fixed, Linear, scaled}
use Rattle.claxon_format.proofs.Laws.{Reads-map, Reads-cond}
use Rattle.claxon_format.proofs.PredictorSubframes.{fit_each, signed_fits, Reads-fixed, Reads-linear}
use Rattle.claxon_format.proofs.Residuals.{Reads-times}
use Rattle.claxon_format.proofs.SignedIntegers.{Reads-signed}
use Rattle.claxon_input.specs.State.{State}
use Rattle.claxon_input.specs.Gives.{Consumes, Stops}
use Rattle.claxon_input.proofs.ConsecutiveCalls.{consumes_map, consumes_then, stops_after}
use Rattle.claxon_input.specs.declared.error.Error.{Error}

replicate_fits : (n : ℕ) (x : ℤ) → FitsSigned w32 x → AllFit (replicate n x)
replicate_fits zero x h = tt
replicate_fits (suc n) x h = (h, replicate_fits n x h)

type_fits : (w n fixed linear : ℕ) (a b c : Bool) (u : List ℤ) (t : Bits) → 0 < w → w ≤ 32
    → cond a (Mapped (λ x. replicate n x) (Signed w)) (cond b (Samples w n) (cond c (Fixed w n fixed) (Linear w n linear))) u t → AllFit u
type_fits w n fixed linear true b c u t some most k = rw k.2 (replicate_fits n k.0 (signed_fits w k.0 t some most k.1))
type_fits w n fixed linear false true c u t some most k = fit_each (Signed w) u t (λ e v d. signed_fits w e v some most d) k.1
type_fits w n fixed linear false false true u t some most k = k.3
type_fits w n fixed linear false false false u t some most k = k.7

-- samples that were read fit 32 bits
samples_fit : (w n type : ℕ) (s m : Bits) (u : List ℤ) → 0 < w → w ≤ 32 → subframe_body_at w n type s ≡ Done u m → AllFit u
unfolding subframe_body_at
samples_fit w n type s m u some most e =
    let law = Reads-cond (eqb type 0) (λ e. Reads-map (λ x. replicate n x) (Reads-signed w some)) (λ f. Reads-cond (eqb type 1) (λ e. Reads-times n (Reads-signed w some)) (λ f. Reads-cond (ltb type 13)
    (λ low. Reads-fixed w n (type - 8) some most (let k : type < 13 = ltb-true _ _ low in omega arith)) (λ high. Reads-linear w n (type - 31) some most))) in
    let t = law.takes s u m e in
    type_fits w n (type - 8) (type - 31) (eqb type 0) (eqb type 1) (ltb type 13) u t.0 some most t.1

same_number : (x : ℤ) → x *ℤ pos 1 ≡ x
same_number x = omega (arith, ints)

-- with no wasted bits the samples stay the same
pub scaled_none : (u : List ℤ) → AllFit u → map (scaled 0) u ≡ u
scaled_none [] h = refl
scaled_none (x ∷ u) h = ap (λ (y : ℤ). wrap y ∷ map (scaled 0) u) (same_number x) ∙ ap (λ (y : ℤ). y ∷ map (scaled 0) u) (int_wrap_fits w32 x h.0) ∙ ap (λ (l : List ℤ). x ∷ l) (scaled_none u h.1)

-- a header, then samples that are scaled
pub channel_consumes : {a b c : State Bool} (w n : ℕ) (header : SubframeFields) (u v : List ℤ) → header.wasted_bits < w → w ≤ 32 → Consumes a b (λ s m. subframe_header_at s ≡ Done header m)
    → Consumes b c (λ s m. subframe_body_at (w - header.wasted_bits) n header.type s ≡ Done u m) → (AllFit u → v ≡ map (scaled header.wasted_bits) u) → Consumes a c (λ s m. subframe_at w n s ≡ Done v m)
unfolding subframe_at
channel_consumes w n header u v lt most first second same =
    consumes_then _ first second (λ e f.
    let fits = samples_fit (w - header.wasted_bits) n header.type _ _ u (omega arith) (omega arith) f in
    rw (e, lt-ltb header.wasted_bits w lt, f, same fits) refl)

-- a header, then a fault of the samples, or the end of input
pub channel_stops : {a b c : State Bool} {e : Error} (w n : ℕ) (header : SubframeFields) → header.wasted_bits < w → Consumes a b (λ s m. subframe_header_at s ≡ Done header m) → Stops e (subframe_body_at (w - header.wasted_bits) n header.type) b c → Stops e (subframe_at w n) a c
unfolding subframe_at
channel_stops w n header lt first second =
    stops_after {read = subframe_body_at (w - header.wasted_bits) n header.type} {next = and_then (subframe_body_at (w - header.wasted_bits) n header.type) (λ u. done (map (scaled header.wasted_bits) u))}
    (consumes_map _ first (λ e. rw (e, lt-ltb header.wasted_bits w lt) refl)) (record { fault = λ s f rest e. rw e refl; incomplete = λ s e. rw e refl }) second
