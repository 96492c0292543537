-- The remaining input is a rest of the input before.
use Rattle.std.proofs.Common.{inl, inr, ℕ, List, [], ◌++◌, Option, None, Some, refl, sym, ap, ◌∙◌, append_assoc}
use Rattle.std.specs.Prelude.{IfErr, IfOk, Result, Ok, Err}
use Rattle.claxon.specs.Frame.{StreamFormat, Block}
use Rattle.claxon.specs.Block.{BlockValue}
use Rattle.claxon.specs.FrameReader.{ReadsFrame}
use Rattle.claxon.specs.Errors.{Error}
use Rattle.claxon.specs.Gives.{IsRest, Consumes}
use Rattle.claxon.specs.State.{State, RemainingIsKnown, source_bytes}
use Rattle.claxon.specs.SampleRuns.{ReadsFrames}
use Rattle.claxon_write.specs.Decoded.{DecodesToEof, EndsAfter, FailsToDecode, ConsumesFramesOrEnd}
use Rattle.claxon_write.specs.declared.output.Output.{Output}

rest_self : (s : List ℕ) → IsRest s s
unfolding IsRest
rest_self s = ([], refl)

rest_trans : (s m r : List ℕ) → IsRest s m → IsRest m r → IsRest s r
unfolding IsRest
rest_trans s m r h k = (h.0 ++ k.0, h.1 ∙ ap (λ (z : List ℕ). h.0 ++ z) k.1 ∙ sym (append_assoc h.0 k.0 r))

-- the bytes of the source are a rest of those before, and still known
abbrev pub KeepsRest : State ℕ → State ℕ → Type 0
KeepsRest a b = RemainingIsKnown a → RemainingIsKnown b × IsRest (source_bytes a) (source_bytes b)

leaves_both : (a b c : State ℕ) → KeepsRest a b → KeepsRest b c → KeepsRest a c
leaves_both a b c h k known = let p = h known in let q = k p.0 in (q.0, rest_trans (source_bytes a) (source_bytes b) (source_bytes c) p.1 q.1)

consumes_leaves : {a b : State ℕ} {P : List ℕ → List ℕ → Type 0} → Consumes a b P → KeepsRest a b
consumes_leaves {a = a} h known = let k = h.known known in (k.known, k.rest (source_bytes a) (rest_self (source_bytes a)))

frame_leaves : (stream : Option StreamFormat) (r : Result (Option BlockValue) Error) (a b : State ℕ) → ReadsFrame stream r a b → KeepsRest a b
frame_leaves stream (Ok (Some x)) a b h = consumes_leaves h.gives
frame_leaves stream (Ok None) a b h = λ known. let k = h.gives.known known in (k.known, k.rest (source_bytes a) (rest_self (source_bytes a)))
frame_leaves stream (Err e) a b h = h.promises.leaves_rest

runs_leave : {stream : Option StreamFormat} {blocks : List Block} (r : Result (Option BlockValue) Error) {a b : State ℕ} → ReadsFrames stream blocks r a b → KeepsRest a b
runs_leave {stream = stream} r {a = a} {b = b} h = leaves_both a h.between b (consumes_leaves h.blocks_are.consumed) (frame_leaves stream r h.between b h.last)

ends_leave : (stream : Option StreamFormat) (blocks : List Block) (end : Option Error) (a b : State ℕ) → EndsAfter stream blocks end a b → KeepsRest a b
ends_leave stream blocks None a b h = runs_leave (Ok None) h
ends_leave stream blocks (Some e) a b (inl h) = runs_leave (Err e) h
ends_leave stream blocks (Some e) a b (inr h) = consumes_leaves h.frames.consumed

blocks_leave : (stream : Option StreamFormat) (blocks : List Block) (a b : State ℕ) → ConsumesFramesOrEnd stream blocks a b → KeepsRest a b
blocks_leave stream blocks a b (inl h) = consumes_leaves h.consumed
blocks_leave stream blocks a b (inr h) = ends_leave stream blocks h.0 a b h.1

-- for any result
pub answer_leaves : {W : Type 0} (contents : W → Option (List ℕ)) (stream : Option StreamFormat) (r : Result ℕ Error) (a b : State ℕ) (x y : Output W) → IfOk r (λ n. DecodesToEof contents stream n a b x y) → IfErr r (λ e. FailsToDecode contents stream e a b x y) → KeepsRest a b
answer_leaves contents stream (Ok n) a b x y h k = ends_leave stream h.0.blocks None a b h.0.ends
answer_leaves contents stream (Err e) a b x y h (inl k) = ends_leave stream k.decoded.blocks (Some e) a b k.decoded.ends
answer_leaves contents stream (Err e) a b x y h (inr (inl k)) = blocks_leave stream k.blocks a b k.takes
answer_leaves contents stream (Err e) a b x y h (inr (inr k)) = ends_leave stream k.decoded.blocks None a b k.decoded.ends
