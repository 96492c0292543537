use Rattle.std.proofs.Common.{rules, ◌≡◌, ◌++◌, [], length, refl, ap, ◌∙◌, w32, List, ℕ}
use Rattle.std.specs.Prelude.{codes}
use Rattle.std.specs.Int.{to_le_bytes}
use Rattle.claxon_wav.specs.WaveFile.{format}
use Rattle.claxon_wav.proofs.RiffChunks.{by, more}
use Rattle.claxon_wav.proofs.header.Layout.put_sizes.Goals as goal

pub returns-clause-is_sound : goal.returns-clause-is_sound
returns-clause-is_sound c =
    let f = format c.args.self.now in
    let all_bytes : c.to_le_bytes.result ≡ to_le_bytes w32 c.args.all = search rules in
    let format_bytes : c.to_le_bytes-2.result ≡ to_le_bytes w32 (length f) = search rules in
    let size_bytes : c.to_le_bytes-3.result ≡ to_le_bytes w32 c.args.size = search rules in
    let one = by [] (codes "RIFF") (c.in_ok-extend_from_slice.ensures.items ∙ ap (λ (z : List ℕ). z ++ codes "RIFF") c.clear.ensures.items) in
    let two = more one (by c.extend_from_slice.new.self.items c.to_le_bytes.result c.in_ok-extend_from_slice-2.ensures.items) all_bytes in
    let three = more two (by c.extend_from_slice-2.new.self.items (codes "WAVEfmt ") c.in_ok-extend_from_slice-3.ensures.items) refl in
    let four = more three (by c.extend_from_slice-3.new.self.items c.to_le_bytes-2.result c.in_ok-extend_from_slice-4.ensures.items) format_bytes in
    let five = more four (by c.extend_from_slice-4.new.self.items f c.in_ok-put_format.ensures.is_sound) refl in
    let six = more five (by c.put_format.new.bytes.items (codes "data") c.in_ok-extend_from_slice-5.ensures.items) refl in
    let seven = more six (by c.extend_from_slice-5.new.self.items c.to_le_bytes-3.result c.in_ok-extend_from_slice-6.ensures.items) size_bytes in
    seven.is
