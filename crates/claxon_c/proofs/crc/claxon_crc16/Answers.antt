use Rattle.std.proofs.Common.{rules}
use Rattle.claxon_c.proofs.CrcCalls.{crc_begun, crc_continued, updated_by_one}
use Rattle.claxon_c.proofs.crc.claxon_crc16.Goals as goal

pub returns-in-len1-clause-begins : goal.returns-in-len1-clause-begins
returns-in-len1-clause-begins c = λ none.
    let bytes = c.args.bytes.now in
    let updated = updated_by_one bytes c.args.crc c.next.result c.in-len1.len_at_least c.in-len1.len_below c.next.ensures in
    let all = crc_begun bytes c.args.crc c.next.result updated none in
    search (rules, all)

pub returns-in-len1-clause-continues : goal.returns-in-len1-clause-continues
returns-in-len1-clause-continues c = λ before known.
    let bytes = c.args.bytes.now in
    let updated = updated_by_one bytes c.args.crc c.next.result c.in-len1.len_at_least c.in-len1.len_below c.next.ensures in
    let all = crc_continued bytes c.args.crc c.next.result updated before known in
    search (rules, all)

pub returns-in_default-clause-begins : goal.returns-in_default-clause-begins
returns-in_default-clause-begins c = λ none.
    let all = crc_begun c.args.bytes.now c.args.crc c.after.result c.after.ensures none in
    search (rules, all)

pub returns-in_default-clause-continues : goal.returns-in_default-clause-continues
returns-in_default-clause-continues c = λ before known.
    let all = crc_continued c.args.bytes.now c.args.crc c.after.result c.after.ensures before known in
    search (rules, all)
