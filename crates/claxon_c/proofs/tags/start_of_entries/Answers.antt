use Rattle.std.proofs.Common.{◌≡◌, ◌≤◌, ◌-◌, arith, rules, refl, drop, length, ap, sym, ◌∙◌, ℕ, min}
use Rattle.claxon.specs.Fault.{CommentShort, VendorLong, fault_text}
use Rattle.claxon_c.specs.TagReader.{first_entry_at, tag_at}
use Rattle.claxon_c.proofs.TagEntries.{front_missing, start_passed, vendor_passed, vendor_too_long}
use Rattle.claxon_c.proofs.tags.start_of_entries.Goals as goal

pub returns-then-at-gt0 : goal.returns-then-at-gt0
returns-then-at-gt0 c =
    let content = c.args.content.now in
    let least : c.min.result ≡ min (length content) c.args.at = search rules in
    record { is_read = (omega (arith, least), start_passed c.args.at content (search rules) ∙ ap (λ (n : ℕ). first_entry_at (length content) (drop n content)) (sym least)) }

pub returns-then-content : goal.returns-then-content
unfolding fault_text
returns-then-content c =
    let content = c.args.content.now in
    let zero-is : c.args.at ≡ 0 = search rules in
    record { is_read = (CommentShort, content, (refl, refl), ap (λ (n : ℕ). tag_at n content) zero-is ∙ front_missing content (search rules)) }

pub returns-then-vendor_length-content : goal.returns-then-vendor_length-content
unfolding fault_text
returns-then-vendor_length-content c =
    let content = c.args.content.now in
    let zero-is : c.args.at ≡ 0 = search rules in
    record { is_read = (VendorLong, drop 4 content, (refl, refl), ap (λ (n : ℕ). tag_at n content) zero-is ∙ vendor_too_long content (drop 4 content) c.length_at-vendor_length.result (search rules) c.length_at-vendor_length.ensures (search rules)) }

pub returns : goal.returns
returns c =
    let content = c.args.content.now in
    let v = c.length_at-vendor_length.result in
    let zero-is : c.args.at ≡ 0 = search rules in
    let enough : 8 ≤ length content = search rules in
    let fits : v ≤ length content - 8 = search rules in
    record { is_read = (omega (arith, enough, fits), ap (λ (n : ℕ). tag_at n content) zero-is ∙ vendor_passed content v enough c.length_at-vendor_length.ensures fits) }
