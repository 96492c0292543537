use Rattle.std.proofs.Common.{rules, ◌≡◌, ◌*◌, ◌%◌, ◌^◌, [], sym, w32}
use Rattle.std.specs.Int.{to_le_bytes, w16}
use Rattle.std.proofs.lemmas.List.{append-nil}
use Rattle.claxon_wav.specs.WaveFile.{block_align, sample_size}
use Rattle.claxon_wav.proofs.RiffChunks.{by, more}
use Rattle.claxon_wav.proofs.header.Layout.put_base_format.Goals as goal

pub returns-clause-is_sound : goal.returns-clause-is_sound
returns-clause-is_sound c =
    let l = c.args.self.now in
    let code : c.to_le_bytes.result ≡ to_le_bytes w16 c.args.code = search rules in
    let channels : c.to_le_bytes-2.result ≡ to_le_bytes w16 l.channels = search rules in
    let rate : c.to_le_bytes-3.result ≡ to_le_bytes w32 l.sample_rate = search rules in
    let speed : c.to_le_bytes-4.result ≡ to_le_bytes w32 (l.sample_rate * block_align l % 2 ^ 32) = search rules in
    let align : c.to_le_bytes-5.result ≡ to_le_bytes w16 (block_align l) = search rules in
    let container : c.to_le_bytes-6.result ≡ to_le_bytes w16 (8 * sample_size l.valid_bits) = search rules in
    let one = more (by c.args.bytes.now.items [] (sym (append-nil c.args.bytes.now.items))) (by c.args.bytes.now.items c.to_le_bytes.result c.in_ok-extend_from_slice.ensures.items) code in
    let two = more one (by c.extend_from_slice.new.self.items c.to_le_bytes-2.result c.in_ok-extend_from_slice-2.ensures.items) channels in
    let three = more two (by c.extend_from_slice-2.new.self.items c.to_le_bytes-3.result c.in_ok-extend_from_slice-3.ensures.items) rate in
    let four = more three (by c.extend_from_slice-3.new.self.items c.to_le_bytes-4.result c.in_ok-extend_from_slice-4.ensures.items) speed in
    let five = more four (by c.extend_from_slice-4.new.self.items c.to_le_bytes-5.result c.in_ok-extend_from_slice-5.ensures.items) align in
    let six = more five (by c.extend_from_slice-5.new.self.items c.to_le_bytes-6.result c.in_ok-extend_from_slice-6.ensures.items) container in
    six.is
