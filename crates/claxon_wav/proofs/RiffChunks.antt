-- The chunks of a WAV file, composed of pieces.
use Rattle.std.proofs.Common.{◌≡◌, ℕ, ◌+◌, ◌%◌, List, [], ◌++◌, length, sym, ap, ◌∙◌, append_assoc, length-append, arith}
use Rattle.std.specs.Prelude.{Bool, true, false, cond, codes, replicate, Result, Ok, Err, OnOk}
use Rattle.std.specs.declared.alloc.AllocError.{AllocError}
use Rattle.std.specs.Int.{to_le_bytes, w32}
use Rattle.std.proofs.lemmas.List.{append-nil, length-replicate}
use Rattle.claxon_wav.specs.WaveFile.{base_format, chunk, extension, format, header_bytes, is_extensible, pad, PutHeaderIsSound}
use Rattle.claxon_wav.specs.declared.header.Layout.{Layout}

-- a has grown to b by xs
pub record Grown (a b xs : List ℕ) : Type 0 where
  pub is : b ≡ a ++ xs

pub by : (a xs : List ℕ) {b : List ℕ} → b ≡ a ++ xs → Grown a b xs
by a xs e = record { is = e }

-- one more piece, and an equal one
pub more : {a b c xs ys zs : List ℕ} → Grown a b xs → Grown b c ys → ys ≡ zs → Grown a c (xs ++ zs)
more {a} {b} {c} {xs} {ys} {zs} g h e = record { is = h.is ∙ ap (λ (z : List ℕ). b ++ z) e ∙ ap (λ (z : List ℕ). z ++ zs) g.is ∙ append_assoc a xs zs }

pub whole : (f samples : List ℕ) (all : ℕ) → all ≡ 20 + length f + length samples + length samples % 2 → length f % 2 ≡ 0
    → chunk (codes "RIFF") (codes "WAVE" ++ chunk (codes "fmt ") f ++ chunk (codes "data") samples) ≡ header_bytes f all (length samples) ++ samples ++ pad (length samples)
whole f samples all all-is even =
    let size = length samples in
    let ends = codes "data" ++ to_le_bytes w32 size ++ samples ++ pad size in
    let body = codes "WAVE" ++ codes "fmt " ++ to_le_bytes w32 (length f) ++ f ++ ends in
    let none : pad (length f) ≡ [] = ap (λ (n : ℕ). replicate n 0) even in
    let same : codes "WAVE" ++ chunk (codes "fmt ") f ++ chunk (codes "data") samples ≡ body = ap (λ (z : List ℕ). codes "WAVE" ++ codes "fmt " ++ to_le_bytes w32 (length f) ++ (z ++ ends)) (ap (λ (z : List ℕ). f ++ z) none ∙ append-nil f) in
    let len : length body ≡ all = omega (arith, all-is, length-append f ends, length-append samples (pad size), length-replicate {A = ℕ} (size % 2) 0) in
    let whole_pairs : all % 2 ≡ 0 = omega (arith, all-is, even) in
    let short : pad all ≡ [] = ap (λ (n : ℕ). replicate n 0) whole_pairs in
    ap (chunk (codes "RIFF")) same ∙ ap (λ (n : ℕ). codes "RIFF" ++ to_le_bytes w32 n ++ body ++ pad n) len
    ∙ ap (λ (z : List ℕ). codes "RIFF" ++ to_le_bytes w32 all ++ body ++ z) short
    ∙ ap (λ (z : List ℕ). codes "RIFF" ++ to_le_bytes w32 all ++ z) (append-nil body)
    ∙ ap (λ (z : List ℕ). codes "RIFF" ++ to_le_bytes w32 all ++ codes "WAVEfmt " ++ to_le_bytes w32 (length f) ++ z)
    (sym (append_assoc f (codes "data" ++ to_le_bytes w32 size) (samples ++ pad size))
    ∙ ap (λ (z : List ℕ). z ++ (samples ++ pad size)) (sym (append_assoc f (codes "data") (to_le_bytes w32 size)))
    ∙ sym (append_assoc (f ++ codes "data" ++ to_le_bytes w32 size) samples (pad size)))

pub header_is : (l : Layout) (size all : ℕ) (bytes : List ℕ) (r : Result (Unit {0}) AllocError) → all ≡ 20 + length (format l) + size + size % 2 → length (format l) % 2 ≡ 0 → OnOk r (bytes ≡ header_bytes (format l) all size)
    → PutHeaderIsSound l size r bytes
header_is l size all bytes (Ok done) all_is even put =
    λ samples len.
    let f = format l in
    let is : all ≡ 20 + length f + length samples + length samples % 2 = rw len all_is in
    whole f samples all is even ∙ ap (λ (n : ℕ). header_bytes f all n ++ samples ++ pad n) len ∙ ap (λ (z : List ℕ). z ++ samples ++ pad size) (sym put)
header_is l size all bytes (Err e) all_is even put = tt

-- ---- the two formats

pub extensible_format : (l : Layout) → is_extensible l ≡ true → format l ≡ base_format 65534 l ++ extension l
unfolding format
extensible_format l e = ap (λ (b : Bool). cond b (base_format 65534 l ++ extension l) (base_format 1 l)) e

pub pcm_format : (l : Layout) → is_extensible l ≡ false → format l ≡ base_format 1 l
unfolding format
pcm_format l e = ap (λ (b : Bool). cond b (base_format 65534 l ++ extension l) (base_format 1 l)) e
