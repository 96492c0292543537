-- Rice codes, and their reader.
use Rattle.std.proofs.Common.{◌≡◌, ℕ, zero, suc, ◌+◌, ◌-◌, ◌*◌, ◌/◌, ◌%◌, ◌^◌, ◌<◌, ◌≤◌, Bool, true, false, cond, eqb, ltb, [], ◌∷◌, ◌++◌, replicate, refl, sym, ap, subst, ◌∙◌, append_assoc, arith, inl, inr, ◌⊎◌, ℤ, pos, negsuc, FitsSigned, w32}
use Rattle.std.proofs.lemmas.Bool.{ltb-true, lt-ltb}
use Rattle.std.proofs.lemmas.List.{append-nil}
use Rattle.std.proofs.lemmas.Nat.{field_of, div-mul-add, mod-mul-add, mod_below, pow_pos, mod-pow-add}
use Rattle.claxon_format.specs.Bits.{Bits, bits, zigzag, rice_code, RiceCode, IsQuotient, Number}
use Rattle.claxon_format.specs.read.Bits.{zigzag_decode, one_more, zeros_at, in_u32, unary_at, zigzag_encoded, rice_code_at}
use Rattle.claxon_format.specs.Fault.{Fault}
use Rattle.claxon_format.specs.read.Reading.{Reads, Reading, Done, Faulty, Incomplete}
use Rattle.claxon_format.proofs.Laws.{Then, Reads-then, Reads-same, Reads-done}
use Rattle.claxon_format.specs.Codes.{ThenFault, Never, Is}
use Rattle.claxon_format.proofs.Numbers.{Reads-number, bits-same, mod_small}

-- a number q in unary: q zeros and a one, where q is below 2 ^ 32
abbrev pub Unary : ℕ → Bits → Type 0
Unary q t = (q < 2 ^ 32) × (t ≡ replicate q false ++ true ∷ [])

even_or_odd : (v : ℕ) → (v ≡ 2 * (v / 2)) ⊎ (v ≡ 2 * (v / 2) + 1)
even_or_odd v = grind arith

-- ---- zeros up to a one

more_done : (x : Reading Bool ℕ) (q : ℕ) (rest : Bits) → one_more x ≡ Done q rest → (p : ℕ) × (q ≡ suc p) × (x ≡ Done p rest)
more_done (Done p s) q rest e = (p, cc, cc)
more_done (Faulty f s) q rest e = absurd cc
more_done Incomplete q rest e = absurd cc

zeros_take : (s : Bits) (q : ℕ) (rest : Bits) → zeros_at s ≡ Done q rest → s ≡ replicate q false ++ true ∷ rest
unfolding zeros_at
zeros_take [] q rest e = absurd cc
zeros_take (true ∷ s) q rest e =
    let k : 0 ≡ q = cc in
    let m : s ≡ rest = cc in rw (← k) (ap (λ (z : Bits). true ∷ z) m)
zeros_take (false ∷ s) q rest e =
    let p = more_done (zeros_at s) q rest e in
    rw p.1 (ap (λ (z : Bits). false ∷ z) (zeros_take s p.0 rest p.2))

zeros_again : (q : ℕ) (rest : Bits) → zeros_at (replicate q false ++ true ∷ rest) ≡ Done q rest
unfolding zeros_at
zeros_again zero rest = refl
zeros_again (suc q) rest = ap one_more (zeros_again q rest)

pub zeros_no_fault : (s : Bits) (f : Fault) (rest : Bits) → zeros_at s ≡ Faulty f rest → ⊥
unfolding zeros_at
zeros_no_fault [] f rest e = cc
zeros_no_fault (true ∷ s) f rest e = cc
zeros_no_fault (false ∷ s) f rest e = more_fault (zeros_at s) f rest (zeros_no_fault s f rest) e
  where
    more_fault : (x : Reading Bool ℕ) (f : Fault) (rest : Bits) → (x ≡ Faulty f rest → ⊥) → one_more x ≡ Faulty f rest → ⊥
    more_fault (Done p s) f rest n e = cc
    more_fault (Faulty g s) f rest n e = n e
    more_fault Incomplete f rest n e = cc

in_done : (x : Reading Bool ℕ) (q : ℕ) (rest : Bits) → in_u32 x ≡ Done q rest → (x ≡ Done q rest) × (q < 2 ^ 32)
in_done (Done p s) q rest e = go (ltb p (2 ^ 32)) refl e
  where
    go : (b : Bool) → ltb p (2 ^ 32) ≡ b → cond b (Done p s) Incomplete ≡ Done q rest → (Done p s ≡ Done q rest) × (q < 2 ^ 32)
    go true t e = (e, (let k : p ≡ q = cc in rw (← k) (ltb-true _ _ t)))
    go false t e = absurd cc
in_done (Faulty f s) q rest e = absurd cc
in_done Incomplete q rest e = absurd cc

in_fault : (x : Reading Bool ℕ) (f : Fault) (rest : Bits) → (x ≡ Faulty f rest → ⊥) → in_u32 x ≡ Faulty f rest → ⊥
in_fault (Done p s) f rest n e = go (ltb p (2 ^ 32)) e
  where
    go : (b : Bool) → cond b (Done p s) Incomplete ≡ Faulty f rest → ⊥
    go true e = cc
    go false e = cc
in_fault (Faulty g s) f rest n e = n e
in_fault Incomplete f rest n e = cc

split_one : (q : ℕ) (rest : Bits) → (replicate q false ++ true ∷ []) ++ rest ≡ replicate q false ++ true ∷ rest
split_one q rest = append_assoc (replicate q false) (true ∷ []) rest

pub Reads-unary : Reads Bool ℕ unary_at Unary Never
unfolding unary_at
Reads-unary = record {
  takes = λ s q rest e.
      let p = in_done (zeros_at s) q rest e in
      (replicate q false ++ true ∷ [], (p.1, refl), zeros_take s q rest p.0 ∙ sym (split_one q rest));
  again = λ q t rest c.
      let e : zeros_at (t ++ rest) ≡ Done q rest = ap zeros_at (ap (λ (z : Bits). z ++ rest) c.1 ∙ split_one q rest) ∙ zeros_again q rest in
      let b : ltb q (2 ^ 32) ≡ true = lt-ltb _ _ c.0 in
      rw e (rw b refl);
  bad = λ s f rest e. absurd (in_fault (zeros_at s) f rest (zeros_no_fault s f rest) e);
  bad_again = λ f t rest c. absurd c;
}

-- a field with no fault
pub record HasNoFault (F : Fault → Bits → Type 0) : Type 0 where
  pub none : (f : Fault) (t : Bits) → F f t → ⊥

pub never : HasNoFault Never
never = record { none = λ f t x. x }

pub never_then : {A : Type 0} {C : A → Bits → Type 0} {F : Fault → Bits → Type 0} {G : A → Fault → Bits → Type 0} → HasNoFault F → ((a : A) → HasNoFault (G a)) → HasNoFault (ThenFault C F G)
never_then first second = record { none = λ f t c. elim c [ inl p ↦ first.none f t p | inr p ↦ (second p.0).none f p.2 p.4 ] }

-- ---- Rice codes

pub zigzag-decode : (n : ℕ) → zigzag (zigzag_decode n) ≡ n
zigzag-decode n =
    elim (even_or_odd n) [
      | inl even ↦ (let parity : n % 2 ≡ 0 = omega arith in rw parity (sym even))
      | inr odd ↦ (let parity : n % 2 ≡ 1 = omega arith in rw parity (sym odd))
    ]

pub decode-zigzag : (e : ℤ) → zigzag_decode (zigzag e) ≡ e
decode-zigzag (pos n) =
    let parity : 2 * n % 2 ≡ 0 = omega arith in
    let half : 2 * n / 2 ≡ n = omega arith in rw (parity, half) refl
decode-zigzag (negsuc n) =
    let parity : (2 * n + 1) % 2 ≡ 1 = omega arith in
    let half : (2 * n + 1) / 2 ≡ n = omega arith in rw (parity, half) refl

pub zigzag-lt : (e : ℤ) → FitsSigned w32 e → zigzag e < 2 ^ 32
zigzag-lt (pos n) h = omega arith
zigzag-lt (negsuc n) h = omega arith

pub zigzag_decode-fits : (n : ℕ) → n < 2 ^ 32 → FitsSigned w32 (zigzag_decode n)
zigzag_decode-fits n h = go (eqb (n % 2) 0)
  where
    go : (b : Bool) → FitsSigned w32 (cond b (pos (n / 2)) (negsuc (n / 2)))
    go true = record { sfits = omega arith }
    go false = record { sfits = omega arith }

-- a number of 32 bits, split above its low k bits
pub parts : (k n : ℕ) → k ≤ 32 → n % 2 ^ 32 ≡ (n / 2 ^ k % 2 ^ (32 - k)) * 2 ^ k + n % 2 ^ k
parts k n le = let whole : 32 - k + k ≡ 32 = omega arith in subst (λ (m : ℕ). n % 2 ^ m ≡ (n / 2 ^ k % 2 ^ (32 - k)) * 2 ^ k + n % 2 ^ k) whole (mod-pow-add n (32 - k) k)

-- the quotient and the low k bits give the zigzag-encoded number
pub zigzag_again : (k q : ℕ) (e : ℤ) → k ≤ 32 → FitsSigned w32 e → IsQuotient k q e → zigzag_encoded k q (zigzag e % 2 ^ k) ≡ zigzag e
zigzag_again k q e le fits is =
    let low : zigzag e % 2 ^ k < 2 ^ k = mod_below (zigzag e) (2 ^ k) (pow_pos k) in
    let x : ℕ = q * 2 ^ k + zigzag e % 2 ^ k in
    let one : (q * 2 ^ k + zigzag e % 2 ^ k) % 2 ^ 32 ≡ ((q * 2 ^ k + zigzag e % 2 ^ k) / 2 ^ k % 2 ^ (32 - k)) * 2 ^ k + (q * 2 ^ k + zigzag e % 2 ^ k) % 2 ^ k = parts k (q * 2 ^ k + zigzag e % 2 ^ k) le in
    let two : zigzag e % 2 ^ 32 ≡ (zigzag e / 2 ^ k % 2 ^ (32 - k)) * 2 ^ k + zigzag e % 2 ^ k = parts k (zigzag e) le in
    one ∙ rw (div-mul-add q (2 ^ k) (zigzag e % 2 ^ k) low, mod-mul-add q (2 ^ k) (zigzag e % 2 ^ k) low, is.congruent) (sym two) ∙ mod_small (zigzag e) (2 ^ 32) (zigzag-lt e fits)

pub quotient_is : (k q r : ℕ) → k ≤ 32 → q < 2 ^ 32 → r < 2 ^ k → IsQuotient k q (zigzag_decode (zigzag_encoded k q r))
quotient_is k q r le lt small = record {
  below = lt;
  congruent =
      let whole : 32 - k + k ≡ 32 = omega arith in
      let f = subst (λ (m : ℕ). (q * 2 ^ k + r) % 2 ^ m / 2 ^ k ≡ (q * 2 ^ k + r) / 2 ^ k % 2 ^ (32 - k)) whole (field_of (q * 2 ^ k + r) (32 - k) k) in
      rw (zigzag-decode (zigzag_encoded k q r), f, div-mul-add q (2 ^ k) r small) (sym (mod_small (q % 2 ^ (32 - k)) (2 ^ (32 - k)) (mod_below q (2 ^ (32 - k)) (pow_pos (32 - k)))));
}

low_is : (k q r : ℕ) → k ≤ 32 → r < 2 ^ k → zigzag_encoded k q r % 2 ^ k ≡ r % 2 ^ k
low_is k q r le small =
    let p = parts k (q * 2 ^ k + r) le in
    let l : (q * 2 ^ k + r) % 2 ^ k < 2 ^ k = mod_below (q * 2 ^ k + r) (2 ^ k) (pow_pos k) in
    ap (λ (m : ℕ). m % 2 ^ k) p ∙ mod-mul-add ((q * 2 ^ k + r) / 2 ^ k % 2 ^ (32 - k)) (2 ^ k) ((q * 2 ^ k + r) % 2 ^ k) l ∙ mod-mul-add q (2 ^ k) r small ∙ sym (mod_small r (2 ^ k) small)

-- the fields of a Rice code
Fields : ℕ → ℤ → Bits → Type 0
Fields k = Then Unary (λ q. Then (Number k) (λ r. Is (zigzag_decode (zigzag_encoded k q r))))

rice_code_of_fields : (k : ℕ) (e : ℤ) (t : Bits) → k ≤ 32 → Fields k e t → RiceCode k e t
unfolding Fields rice_code
rice_code_of_fields k e t le c =
    let q = c.0 in
    let r = c.4.0 in
    let small : r < 2 ^ k = c.4.3.0 in
    let same : bits k r ≡ bits k (zigzag e) = bits-same k r (zigzag e) (sym (low_is k q r le small) ∙ ap (λ (m : ℕ). m % 2 ^ k) (sym (zigzag-decode (zigzag_encoded k q r)) ∙ ap zigzag (sym c.4.4.0))) in
    let tail : c.2 ≡ bits k (zigzag e) = c.4.5 ∙ rw (c.4.4.1, c.4.3.1) (append-nil (bits k r)) ∙ same in
    let fits : FitsSigned w32 (zigzag_decode (zigzag_encoded k q r)) = zigzag_decode-fits (zigzag_encoded k q r) (mod_below (q * 2 ^ k + r) 4294967296 (omega arith)) in
    (rw c.4.4.0 fits, (q, rw c.4.4.0 (quotient_is k q r le c.3.0 small), c.5 ∙ rw (c.3.1, tail) (split_one q (bits k (zigzag e)))))

fields_of_rice_code : (k : ℕ) (e : ℤ) (t : Bits) → k ≤ 32 → RiceCode k e t → Fields k e t
unfolding Fields rice_code
fields_of_rice_code k e t le c =
    let q = c.1.0 in
    let low : zigzag e % 2 ^ k < 2 ^ k = mod_below (zigzag e) (2 ^ k) (pow_pos k) in
    let value : e ≡ zigzag_decode (zigzag_encoded k q (zigzag e % 2 ^ k)) = sym (ap zigzag_decode (zigzag_again k q e le c.0 c.1.1) ∙ decode-zigzag e) in (
      q,
      replicate q false ++ true ∷ [],
      bits k (zigzag e),
      (c.1.1.below, refl),
      (zigzag e % 2 ^ k, bits k (zigzag e), [], (low, bits-same k (zigzag e) (zigzag e % 2 ^ k) (sym (mod_small (zigzag e % 2 ^ k) (2 ^ k) low))), (value, refl), sym (append-nil (bits k (zigzag e)))),
      c.1.2 ∙ sym (split_one q (bits k (zigzag e))),
    )

pub Reads-rice_code : (k : ℕ) → k ≤ 32 → Reads Bool ℤ (rice_code_at k) (RiceCode k) Never
unfolding rice_code_at Fields
Reads-rice_code k le =
    Reads-same (Reads-then Reads-unary (λ q t c. Reads-then (Reads-number k) (λ r u d. Reads-done ℤ (zigzag_decode (zigzag_encoded k q r)))))
    (λ e t c. rice_code_of_fields k e t le c)
    (λ e t c. fields_of_rice_code k e t le c)
    (λ f t c. absurd ((never_then never (λ q. never_then never (λ r. never))).none f t c))
    (λ f t c. absurd c)
