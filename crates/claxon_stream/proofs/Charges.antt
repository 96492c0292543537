-- What a fault costs.
use Rattle.std.proofs.Common.{◌≡◌, inl, inr, ℕ, ◌+◌, ◌-◌, ◌^◌, ◌<◌, Bool, true, List, [], ◌++◌, Option, sym, ap, subst, ◌∙◌, append_assoc, append-nil, arith}
use Rattle.std.specs.Prelude.{Result, Ok, Err}
use Rattle.claxon.specs.Errors.{Error}
use Rattle.claxon.specs.Fault.{Fault}
use Rattle.claxon.specs.Frame.{FrameBytesFault, IsBitDepth, StreamFormat, known_bit_depth}
use Rattle.claxon.specs.Prefix.{BeginsWith}
use Rattle.claxon.proofs.BlockInfo.{headers_unambiguous}
use Rattle.claxon_seek.proofs.HeadersAtStart.{fault_of_header}
use Rattle.claxon_stream.specs.Budget.{charged}
use Rattle.claxon_stream.specs.DecodedAtStart.{SamplesAreSaid}
use Rattle.claxon_stream.specs.Event.{EventIs}
use Rattle.claxon_stream.specs.FrameDecoder.{IsFaultyOrCut}
use Rattle.claxon_stream.specs.Noted.{IsWorkOfFault}
use Rattle.claxon_stream.specs.declared.event.Event.{Event}
use Rattle.claxon_stream.specs.declared.event.Event.TheVariants.{Cut, Decoded, End, Faulty, ReadOn}

module _ (stream : Option StreamFormat) (depth : IsBitDepth (known_bit_depth stream)) (rest more : List ℕ) where
  longer : {Code : List ℕ → Type 0} → BeginsWith Code rest → BeginsWith Code (rest ++ more)
  longer (t, u, code, e) = (t, u ++ more, code, ap (λ (s : List ℕ). s ++ more) e ∙ append_assoc t u more)

  -- where a fault stands, the header is there or none can follow
  said_of_all : (f : Fault) → BeginsWith (FrameBytesFault stream f) rest → (samples : ℕ) → SamplesAreSaid stream rest samples → SamplesAreSaid stream (rest ++ more) samples
  said_of_all f bad samples (inl (info, header, are)) = inl (info, longer header, are)
  said_of_all f bad samples (inr (none, are)) = inr (
    λ info header.
        let k = longer (fault_of_header stream depth rest none f bad) in
        (headers_unambiguous stream).no_fault info f header.0 k.0 header.1 k.1 header.2 k.2 (sym header.3 ∙ k.3),
    are,
  )

  module _ (all : List ℕ) (whole : all ≡ rest ++ more) (ends : Bool) (capacity position new moved old after work : ℕ) (last : ends ≡ true → more ≡ []) (goes : new ≡ position + moved) (is : after ≡ charged old work) (small : old < 2 ^ 64) where
    -- so the charge is that of all bytes of the stream
    pub charged_by : (r : Result Event Error) → EventIs stream rest ends capacity position r new → IsWorkOfFault stream rest r moved work
        → (IsFaultyOrCut r → (samples : ℕ) × SamplesAreSaid stream all samples × (after ≡ charged old ((new - position) + samples))) × ((IsFaultyOrCut r → ⊥) → after ≡ old)
    charged_by (Ok (Faulty fault)) h (samples, said, cost) =
        let f = h.1 in
        let k = f.2.1 in
        (λ refused. (samples, rw whole (said_of_all f.0 (k.0, k.1, k.2, k.3) samples said), omega (arith, goes, is, cost)), λ other. absurd (other tt))
    charged_by (Ok (Cut at)) h (samples, said, cost) =
        let same : rest ≡ all = sym (append-nil rest) ∙ ap (λ (s : List ℕ). rest ++ s) (sym (last h.1)) ∙ sym whole in
        (λ refused. (samples, subst (λ (s : List ℕ). SamplesAreSaid stream s samples) same said, omega (arith, goes, is, cost)), λ other. absurd (other tt))
    charged_by (Ok (Decoded frame)) h none = (λ refused. absurd refused, λ other. omega (arith, is, none, small))
    charged_by (Ok End) h none = (λ refused. absurd refused, λ other. omega (arith, is, none, small))
    charged_by (Ok (ReadOn needed)) h none = (λ refused. absurd refused, λ other. omega (arith, is, none, small))
    charged_by (Err e) h none = (λ refused. absurd refused, λ other. omega (arith, is, none, small))
