-- The tags of a stream whose head was read, or not.
use Rattle.std.proofs.Common.{◌≡◌, ◌∙◌, Bool, ℕ, List, ap, inl, inr, subst, true}
use Rattle.std.specs.Prelude.{IfErr, IfOk, Option, Result, String, Vec, Ok, Err}
use Rattle.claxon.specs.Errors.{Error}
use Rattle.claxon.specs.Errors.TheVariants.{OutOfMemory}
use Rattle.claxon.specs.FlacReader.{flac_head}
use Rattle.claxon.specs.Heads.{Head, Options}
use Rattle.claxon.specs.Opening.{OpenFaultIsComplete, OpenIsComplete, OpenFaultIsSound, OpenIsSound, OpenAnswer, flac_bytes}
use Rattle.claxon.specs.ReadHead.{options_view}
use Rattle.claxon.specs.declared.head.FlacReaderOptions.{FlacReaderOptions}
use Rattle.claxon.specs.declared.reader.FlacReader.{FlacReader}
use Rattle.claxon_uses.specs.TagLines.{AreTags, AreTagsOf, TagFaultIsComplete, TagFaultIsSound, TagLinesAreComplete, TagLinesAreSound, metadata_alone}
use Rattle.claxon_uses.proofs.MemoryOrIoErrors.{same_memory_or_io_error, not_memory_or_io_error}

pub options_alone : (o : FlacReaderOptions) → o.metadata_only ≡ true → o.read_vorbis_comment ≡ true → options_view o ≡ metadata_alone
options_alone o only comment =
    let first : Bool → Options = λ b. record { metadata_only = b; wants_comment = o.read_vorbis_comment } in
    let second : Bool → Options = λ b. record { metadata_only = true; wants_comment = b } in
    ap first only ∙ ap second comment

-- ---- all clauses

pub record TagPromises {R A : Type 0} (remaining : R → Option (List ℕ)) (reader : R) (r : Result (Vec (String A) A) Error) : Type 0 where
  pub sound : TagLinesAreSound remaining reader r
  pub complete : TagLinesAreComplete remaining reader r
  pub fault : TagFaultIsSound remaining reader r
  pub named : TagFaultIsComplete remaining reader r

module _ {R A : Type 0} (remaining : R → Option (List ℕ)) (reader : R) (o : Options) (alone : o ≡ metadata_alone) where
  -- no head was read
  pub no_tags : (e : Error) → OpenIsComplete remaining o reader (let r : OpenAnswer R A = Err e in r) → OpenFaultIsSound remaining o reader (let r : OpenAnswer R A = Err e in r)
      → OpenFaultIsComplete remaining o reader (let r : OpenAnswer R A = Err e in r) → TagPromises {A = A} remaining reader (Err e)
  no_tags e complete fault named =
      let all = subst (λ (z : Options). OpenIsComplete remaining z reader (let r : OpenAnswer R A = Err e in r)) alone complete in
      let each = subst (λ (z : Options). OpenFaultIsComplete remaining z reader (let r : OpenAnswer R A = Err e in r)) alone named in
      record {
        sound = tt;
        complete = λ h is_known b. elim (all h b.0 b.1 b.2 (record { known = is_known; are = b.3 })) [ inl p ↦ absurd p | inr d ↦ inr (same_memory_or_io_error e d) ];
        fault = subst (λ (z : Options). OpenFaultIsSound remaining z reader (let r : OpenAnswer R A = Err e in r)) alone fault;
        named = λ f is_known b. elim (each f b.0 b.1 b.2 (record { known = is_known; are = b.3 })) [ inl p ↦ inl p | inr d ↦ inr (same_memory_or_io_error e d) ];
      }

  -- a head was read, and its tags are returned or there is no memory for them
  pub tags_answered : (flac : FlacReader R A) → OpenIsSound remaining o reader (let r : OpenAnswer R A = Ok flac in r) → OpenIsComplete remaining o reader (let r : OpenAnswer R A = Ok flac in r)
      → OpenFaultIsComplete remaining o reader (let r : OpenAnswer R A = Ok flac in r) → (r : Result (Vec (String A) A) Error) → IfOk r (AreTags flac) → IfErr r (λ e. e ≡ OutOfMemory) → TagPromises remaining reader r
  tags_answered flac sound complete named (Ok lines) are memory =
      let shown = subst (λ (z : Options). OpenIsSound remaining z reader (let r : OpenAnswer R A = Ok flac in r)) alone sound in
      let all = subst (λ (z : Options). OpenIsComplete remaining z reader (let r : OpenAnswer R A = Ok flac in r)) alone complete in
      let each = subst (λ (z : Options). OpenFaultIsComplete remaining z reader (let r : OpenAnswer R A = Ok flac in r)) alone named in
      record {
        sound = λ is_known. (flac_head flac, ((shown is_known).1.0, (flac_bytes remaining flac).remaining, (shown is_known).1.1, (shown is_known).1.2), are);
        complete = λ h is_known b. elim (all h b.0 b.1 b.2 (record { known = is_known; are = b.3 })) [ inl p ↦ inl (subst (λ (z : Head). AreTagsOf z lines) p.0 are) | inr d ↦ absurd (not_memory_or_io_error flac d) ];
        fault = tt;
        named = λ f is_known b. elim (each f b.0 b.1 b.2 (record { known = is_known; are = b.3 })) [ inl p ↦ absurd p | inr d ↦ absurd (not_memory_or_io_error flac d) ];
      }
  tags_answered flac sound complete named (Err e) are memory = record {
    sound = tt;
    complete = λ h is_known b. inr (inl (ap (λ (z : Error). Err z) memory));
    fault = inl memory;
    named = λ f is_known b. inr (inl (ap (λ (z : Error). Err z) memory));
  }
