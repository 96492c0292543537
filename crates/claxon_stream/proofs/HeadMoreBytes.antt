-- What is read of bytes is read of more bytes too.
use Rattle.std.proofs.Common.{◌≡◌, inl, inr, ℕ, min, Bool, true, false, not, List, ◌++◌, Option, None, Some, refl, ap, ◌∙◌, append_assoc}
use Rattle.claxon.specs.Fault.{Fault, TooManyBlocks}
use Rattle.claxon.specs.MetadataBlocks.{Content, skipped}
use Rattle.claxon.specs.read.Bytes.{skipped_at}
use Rattle.claxon.specs.read.Reading.{Reads, Reading, Done, Faulty, and_then, done, test}
use Rattle.claxon.proofs.Laws.{bind_done, bind_fault}
use Rattle.claxon.proofs.Metadata.{Reads-block_header, Reads-bytes}
use Rattle.claxon_format.proofs.Heads.{Reads-marker}
use Rattle.claxon_format.proofs.MetadataBlocks.{Reads-body}
use Rattle.claxon_stream.specs.HeadPart.{BlockPart, EndPart, HeaderPart, MarkerPart, content_rest_at, is_passed, part_at, unless_refused}
use Rattle.claxon_stream.specs.HeadRules.{allows_more, refused}
use Rattle.claxon_stream.specs.declared.head.part.NextPart.{NextPart}
use Rattle.claxon_stream.specs.declared.head.part.NextPart.TheVariants.{Content as ContentNext, End as EndNext, Header as HeaderNext, Marker as MarkerNext}
use Rattle.claxon_stream.specs.declared.head.rules.Rules.{Rules}

-- A value or a fault stays the same when more bytes follow.
pub record IsSteady {A : Type 0} (r : List ℕ → Reading ℕ A) : Type 0 where
  pub value : (s : List ℕ) (a : A) (rest more : List ℕ) → r s ≡ Done a rest → r (s ++ more) ≡ Done a (rest ++ more)
  pub fault : (s : List ℕ) (f : Fault) (rest more : List ℕ) → r s ≡ Faulty f rest → r (s ++ more) ≡ Faulty f (rest ++ more)

pub steady_reads : {A : Type 0} {r : List ℕ → Reading ℕ A} {C : A → List ℕ → Type 0} {F : Fault → List ℕ → Type 0} → Reads ℕ A r C F → IsSteady r
steady_reads {r = r} h = record {
  value = λ s a rest more e. let k = h.takes s a rest e in ap r (ap (λ (z : List ℕ). z ++ more) k.2 ∙ append_assoc k.0 rest more) ∙ h.again a k.0 (rest ++ more) k.1;
  fault = λ s f rest more e. let k = h.bad s f rest e in ap r (ap (λ (z : List ℕ). z ++ more) k.2 ∙ append_assoc k.0 rest more) ∙ h.bad_again f k.0 (rest ++ more) k.1;
}

steady_done : {A : Type 0} (a : A) → IsSteady (done a)
steady_done a = record {
  value = λ s b rest more e. let x : a ≡ b = cc in let y : s ≡ rest = cc in rw (x, y) refl;
  fault = λ s f rest more e. absurd cc;
}

steady_then : {A B : Type 0} {r : List ℕ → Reading ℕ A} {f : A → List ℕ → Reading ℕ B} → IsSteady r → ((a : A) → IsSteady (f a)) → IsSteady (and_then r f)
steady_then {r = r} {f = f} first second = record {
  value = λ s b rest more e.
      let k = bind_done (r s) f b rest e in
      rw (first.value s k.0 k.1 more k.2) ((second k.0).value k.1 b rest more k.3);
  fault = λ s g rest more e.
      elim (bind_fault (r s) f g rest e) [
        | inl p ↦ rw (first.fault s g rest more p) refl
        | inr k ↦ rw (first.value s k.0 k.1 more k.2) ((second k.0).fault k.1 g rest more k.3)
      ];
}

steady_test : {A : Type 0} {r : List ℕ → Reading ℕ A} (b : Bool) (f : Fault) → IsSteady r → IsSteady (test b f r)
steady_test false f h = h
steady_test true f h = record {
  value = λ s a rest more e. absurd cc;
  fault = λ s g rest more e. let x : f ≡ g = cc in let y : s ≡ rest = cc in rw (x, y) refl;
}

steady_skipped : (n : ℕ) → IsSteady (skipped_at n)
unfolding skipped_at
steady_skipped n = steady_then (steady_reads (Reads-bytes n)) (λ bytes. steady_done tt)

steady_content : (type n : ℕ) → IsSteady (content_rest_at type n)
steady_content type n = go (is_passed type) refl
  where
    go : (b : Bool) → is_passed type ≡ b → IsSteady (content_rest_at type n)
    go true is = rw is (steady_then (steady_skipped (min n 1)) (λ u. steady_done (skipped type n)))
    go false is = rw is (steady_reads (Reads-body type n))

steady_unless : (f : Option Fault) (c : Content) → IsSteady (unless_refused f c)
steady_unless None c = steady_done (BlockPart c)
steady_unless (Some f) c = record {
  value = λ s a rest more e. absurd cc;
  fault = λ s g rest more e. let x : f ≡ g = cc in let y : s ≡ rest = cc in rw (x, y) refl;
}

pub steady_part : (next : NextPart) (r : Rules) → IsSteady (part_at next r)
steady_part MarkerNext r = steady_then (steady_reads Reads-marker) (λ m. steady_done MarkerPart)
steady_part HeaderNext r = steady_then (steady_test (not (allows_more r)) TooManyBlocks (steady_reads Reads-block_header)) (λ h. steady_done (HeaderPart h))
steady_part (ContentNext h) r = steady_then (steady_content h.block_type h.length) (λ c. steady_unless (refused r c) c)
steady_part EndNext r = steady_done EndPart
