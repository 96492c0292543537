-- Files that are written as planned.
use Rattle.std.proofs.Common.{◌≡◌, ◌≢◌, ℕ, ◌+◌, List, ◌++◌, length, Option, None, Some, refl, sym, ap, subst, ◌∙◌, arith}
use Rattle.std.specs.Io.KnownBytes.{Appends}
use Rattle.std.proofs.KnownBytes.{Appends-trans}
use Rattle.claxon.specs.Frame.{Block}
use Rattle.claxon_write.specs.CountingWriter.{inner_contents, inner_writer}
use Rattle.claxon_write.specs.declared.counting_writer.CountingWriter.{CountingWriter}
use Rattle.claxon_wav.specs.Conversion.{AnnouncesAll, CorrectsHeader, first_size, planned_bytes}
use Rattle.claxon_wav.specs.Convert.{HoldsFile, HoldsOther, HoldsUnknown, PutsSamples, packed_blocks}
use Rattle.claxon_wav.specs.WaveFile.{IsHeader, pad, unknown_header, wave_file}
use Rattle.claxon_wav.specs.Writer.{Begins, BeginsAs, Ends, output_contents}
use Rattle.claxon_wav.specs.declared.header.Layout.{Layout}
use Rattle.claxon_wav.specs.declared.plan.Plan.{Plan}
use Rattle.claxon_wav.specs.declared.writer.WavWriter.{WavWriter}

module _ {W : Type 0} (contents : W → Option (List ℕ)) (plan : Plan) (blocks : List Block) (fresh old new : WavWriter W) (layout : fresh.layout ≡ plan.layout) where
  whole_file : (size : ℕ) → Begins contents size fresh old → HoldsFile contents blocks old new → size ≡ length (planned_bytes plan blocks) → Appends (output_contents contents fresh) (output_contents contents new) (wave_file plan.layout (planned_bytes plan blocks))
  whole_file size begins holds is =
      let all : size ≡ length (packed_blocks fresh.layout.valid_bits blocks) = is ∙ sym (ap (λ (l : Layout). length (packed_blocks l.valid_bits blocks)) layout) in
      subst (λ (l : Layout). Appends (output_contents contents fresh) (output_contents contents new) (wave_file l (packed_blocks l.valid_bits blocks))) layout (holds fresh size begins all)

  -- a file whose header announces what the plan says, or 0
  pub planned_file : (size : ℕ) → size ≡ first_size plan → Begins contents size fresh old → HoldsFile contents blocks old new → first_size plan ≡ length (planned_bytes plan blocks) → Appends (output_contents contents fresh) (output_contents contents new) (wave_file plan.layout (planned_bytes plan blocks))
  planned_file size is begins holds announces = whole_file size begins holds (is ∙ announces)

  -- the same file, whose header is corrected
  pub corrected_file : (position : W → Option ℕ) (put : WavWriter W) (size : ℕ) → size ≡ first_size plan → Begins contents size fresh old → PutsSamples contents blocks old put → Ends contents position put new → first_size plan ≢ length (planned_bytes plan blocks)
      → CorrectsHeader contents position plan.layout (first_size plan) (planned_bytes plan blocks) (output_contents contents fresh) (output_contents contents new)
  corrected_file position put size is begins puts ends differ =
      let bits = plan.layout.valid_bits in
      let bytes = planned_bytes plan blocks in
      let same : old.layout ≡ plan.layout = begins.writes.layout_is ∙ layout in
      let samples : Appends (output_contents contents old) (output_contents contents put) bytes = subst (λ (l : Layout). Appends (output_contents contents old) (output_contents contents put) (packed_blocks l.valid_bits blocks)) same puts.bytes_are in
      let counted : put.written ≡ old.written + length bytes = subst (λ (l : Layout). put.written ≡ old.written + length (packed_blocks l.valid_bits blocks)) same puts.written_is in
      let written : put.written ≡ length bytes = omega (arith, counted, begins.writes.none_so_far) in
      let other : put.announced ≡ put.written → ⊥ = λ e. differ (sym is ∙ sym (puts.announced_is ∙ begins.writes.announced_is) ∙ e ∙ written) in
      let wrong = ends.wrong other in
      let padded : CountingWriter W = wrong.0 in
      let pads = subst (λ (n : ℕ). Appends (output_contents contents put) (inner_contents contents padded) (pad n)) written wrong.1 in
      let front = Appends-trans (output_contents contents fresh) (output_contents contents old) (output_contents contents put) begins.header bytes begins.writes.written samples in
      let whole = Appends-trans (output_contents contents fresh) (output_contents contents put) (inner_contents contents padded) (begins.header ++ bytes) (pad (length bytes)) front pads in
      let header = wrong.2 in
      record {
        first = begins.header;
        is_first = subst (λ (l : Layout). IsHeader l (first_size plan) begins.header) layout (subst (λ (n : ℕ). IsHeader fresh.layout n begins.header) is begins.is_header);
        padded = inner_writer padded;
        put = whole;
        start = inner_writer header.start;
        at_start = header.at_start;
        last = header.header;
        is_last = subst (λ (l : Layout). IsHeader l (length bytes) header.header) (puts.layout_is ∙ same) (subst (λ (n : ℕ). IsHeader put.layout n header.header) written header.is_header);
        written = header.written;
      }

  -- the same of an output that can't seek
  pub planned_stream : BeginsAs contents plan.announced fresh old → HoldsFile contents blocks old new → AnnouncesAll plan blocks → Appends (output_contents contents fresh) (output_contents contents new) (wave_file plan.layout (planned_bytes plan blocks))
  planned_stream begins holds announces = whole_file (length (planned_bytes plan blocks)) (subst (λ (o : Option ℕ). BeginsAs contents o fresh old) announces begins) holds refl

  pub planned_unknown : BeginsAs contents plan.announced fresh old → HoldsUnknown contents blocks old new → plan.announced ≡ None → Appends (output_contents contents fresh) (output_contents contents new) (unknown_header plan.layout ++ planned_bytes plan blocks)
  planned_unknown begins holds none =
      subst (λ (l : Layout). Appends (output_contents contents fresh) (output_contents contents new) (unknown_header l ++ packed_blocks l.valid_bits blocks)) layout (holds fresh (subst (λ (o : Option ℕ). BeginsAs contents o fresh old) none begins))

  -- a header that announces another number
  pub planned_other : (announced : ℕ) → BeginsAs contents plan.announced fresh old → HoldsOther contents blocks old new → plan.announced ≡ Some announced → announced ≢ length (planned_bytes plan blocks)
      → (header : List ℕ) × IsHeader plan.layout announced header × Appends (output_contents contents fresh) (output_contents contents new) (header ++ planned_bytes plan blocks)
  planned_other announced begins holds some differ =
      let differs : announced ≢ length (packed_blocks fresh.layout.valid_bits blocks) = λ e. differ (e ∙ ap (λ (l : Layout). length (packed_blocks l.valid_bits blocks)) layout) in
      subst (λ (l : Layout). (header : List ℕ) × IsHeader l announced header × Appends (output_contents contents fresh) (output_contents contents new) (header ++ packed_blocks l.valid_bits blocks)) layout (holds fresh announced (subst (λ (o : Option ℕ). BeginsAs contents o fresh old) some begins) differs)

-- the same header, of which more is known
pub with_header : {P Q R : List ℕ → Type 0} → (header : List ℕ) × P header × Q header → ((header : List ℕ) → Q header → R header) → (header : List ℕ) × P header × R header
with_header h more = (h.0, h.1, more h.0 h.2)

-- no samples were written yet
pub none_begun : {W : Type 0} (contents : W → Option (List ℕ)) (announced : Option ℕ) (old new : WavWriter W) → BeginsAs contents announced old new → new.written ≡ 0
none_begun contents None old new begins = begins.none_so_far
none_begun contents (Some n) old new begins = begins.writes.none_so_far

-- the layout stays
pub same_layout_begun : {W : Type 0} (contents : W → Option (List ℕ)) (announced : Option ℕ) (old new : WavWriter W) → BeginsAs contents announced old new → new.layout ≡ old.layout
same_layout_begun contents None old new begins = begins.layout_is
same_layout_begun contents (Some n) old new begins = begins.writes.layout_is
