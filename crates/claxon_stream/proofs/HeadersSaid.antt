-- What a header says, and whether bytes begin with one.
use Rattle.std.proofs.Common.{◌≡◌, ◌⊎◌, inl, inr, ℕ, ◌+◌, ◌-◌, ◌*◌, ◌≤◌, Bool, true, false, cond, eqb, ltb, List, [], Option, None, Some, refl, sym, ap, subst, ◌∙◌, arith}
use Rattle.std.proofs.lemmas.Bool.{cases_lt}
use Rattle.std.proofs.lemmas.Nat.{mul-le}
use Rattle.claxon_format.proofs.Headers.{size_bounded}
use Rattle.claxon_format.specs.read.Reading.{Done, Faulty, Incomplete, Reading}
use Rattle.claxon.specs.Bits.{Bits, bits}
use Rattle.claxon.specs.BlockInfo.{HeaderOf, header_info_at}
use Rattle.claxon.specs.BlockInfos.{BlockInfo}
use Rattle.claxon.specs.Frame.{StreamFormat}
use Rattle.claxon.specs.Header.{Size, size_of}
use Rattle.claxon.specs.StreamInfos.{StreamInfo}
use Rattle.claxon.proofs.BlockInfo.{Reads-info, headers_unambiguous}
use Rattle.claxon_format.specs.FrameWriter.{channel_count}
use Rattle.claxon_seek.specs.Find.{HasFormat, WantedHeader, known_format}

size_some : (code n : ℕ) (t : Bits) → code ≤ 15 → Size code n t → 1 ≤ n
size_some code n t le s = go (eqb code 6) (eqb code 7) s
  where
    go : (a b : Bool) → cond a ((1 ≤ n) × (n ≤ 256) × (t ≡ bits 8 (n - 1))) (cond b ((1 ≤ n) × (n ≤ 65535) × (t ≡ bits 16 (n - 1))) ((size_of code ≡ Some n) × (t ≡ []))) → 1 ≤ n
    go true b s = s.0
    go false true s = s.0
    go false false s = (size_bounded code n (omega (arith, le)) s.0).0

channels_some : (code : ℕ) → 1 ≤ channel_count code
channels_some code = go (ltb code 8)
  where
    go : (b : Bool) → 1 ≤ cond b (code + 1) 2
    go true = omega arith
    go false = omega arith

-- a block has samples
pub header_has_samples : (stream : Option StreamFormat) (info : BlockInfo) (t : List ℕ) → HeaderOf stream info t → 1 ≤ info.channels * info.duration
header_has_samples stream info t (h, ((x, fields, e), depth, side), is) =
    let size = size_some fields.0 h.fields.size fields.4 fields.7 fields.14 in
    let channels = channels_some h.fields.channel_code in
    subst (λ (i : BlockInfo). 1 ≤ i.channels * i.duration) (sym is) (mul-le 1 1 (channel_count h.fields.channel_code) h.fields.size channels size)

-- ---- whether there is one

same_or_not : (a b : ℕ) → (a ≡ b) ⊎ (a ≡ b → ⊥)
same_or_not a b = elim (cases_lt a b) [
  | inl lt ↦ inr (λ e. omega (arith, lt, e))
  | inr le ↦ elim (cases_lt b a) [ inl lt ↦ inr (λ e. omega (arith, lt, e)) | inr other ↦ inl (omega (arith, le, other)) ]
]

format_or_not : (known : Option StreamInfo) (info : BlockInfo) → HasFormat known info ⊎ (HasFormat known info → ⊥)
format_or_not None info = inl tt
format_or_not (Some stream) info = elim (same_or_not info.channels stream.channels) [
  | inr other ↦ inr (λ h. other h.0)
  | inl same ↦ elim (same_or_not info.bit_depth stream.bits_per_sample) [ inr other ↦ inr (λ h. other h.1) | inl depth ↦ inl (same, depth) ]
]

-- a header of the stream, or none
pub header_or_none : (known : Option StreamInfo) (bytes : List ℕ) → ((info : BlockInfo) × WantedHeader known None bytes info) ⊎ ((info : BlockInfo) → WantedHeader known None bytes info → ⊥)
header_or_none known bytes = go (header_info_at stream bytes) refl
  where
    stream : Option StreamFormat
    stream = known_format known

    read : (info : BlockInfo) (wanted : WantedHeader known None bytes info) → header_info_at stream bytes ≡ Done info wanted.header.1
    read info wanted = let h = wanted.header in ap (header_info_at stream) h.3 ∙ (Reads-info stream).again info h.0 h.1 h.2

    go : (x : Reading ℕ BlockInfo) → header_info_at stream bytes ≡ x → ((info : BlockInfo) × WantedHeader known None bytes info) ⊎ ((info : BlockInfo) → WantedHeader known None bytes info → ⊥)
    go (Done info rest) is =
        let k = (Reads-info stream).takes bytes info rest is in
        elim (format_or_not known info) [
          | inl format ↦ inl (info, record { format = format; holds = tt; header = (k.0, rest, k.1, k.2) })
          | inr other ↦ inr (λ i wanted. let h = wanted.header in
              let same = ((headers_unambiguous stream).one_code i info h.0 k.0 h.1 rest h.2 k.1 (sym h.3 ∙ k.2)).0 in
              other (subst (HasFormat known) same wanted.format))
        ]
    go (Faulty f rest) is = inr (λ info wanted. let q = sym is ∙ read info wanted in absurd cc)
    go Incomplete is = inr (λ info wanted. let q = sym is ∙ read info wanted in absurd cc)
