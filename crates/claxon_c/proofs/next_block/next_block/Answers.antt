use Rattle.std.proofs.Common.{◌≡◌, ◌↔◌, ℕ, IsTrue, false, true, inl, inr, refl, ap, length, drop, min, rules, None, Some}
use Rattle.std.specs.Prelude.{Ok, Err}
use Rattle.std.specs.Option.{option_map}
use Rattle.claxon.specs.Errors.{Error}
use Rattle.claxon.specs.Errors.TheVariants.{OutOfMemory}
use Rattle.claxon.specs.FrameReader.{FrameAnswer, stream_with}
use Rattle.claxon_c.specs.Info.{known_stream}
use Rattle.claxon_c.specs.Status.{out_of_memory}
use Rattle.claxon_c.proofs.BlockCalls.{at_position, decoded_there, header_at_position, too_small_there}
use Rattle.claxon_c.proofs.HeadersAtStart.{header_of_ok, no_header_of_err, not_larger_there}
use Rattle.claxon_c.proofs.Reports.{is_out_of_memory, reported_out_of_memory}
use Rattle.claxon_seek.proofs.HeadersAtStart.{none_at_start, refused_at_start}
use Rattle.claxon_seek.proofs.Searches.{known_depth}
use Rattle.claxon_seek.specs.AtStart.{FoundHeader}
use Rattle.claxon_c.proofs.next_block.next_block.Goals as goal

-- what is true just where a test holds that failed
unless_true : {P : Type 0} → (IsTrue false ↔ P) → P → ⊥
unless_true h p = let q : false ≡ true = h.1 p in cc

pub returns-in-Ok-None-clause-next_block : goal.returns-in-Ok-None-clause-next_block
returns-in-Ok-None-clause-next_block c =
    let from = c.args.at.now in
    let start = c.min-start.result in
    let bytes = c.args.bytes.now in
    let capacity = c.args.capacity in
    let info = c.args.info.now in
    let stream = known_stream info in
    let known = option_map stream_with c.known_stream-known.result in
    let same : known ≡ stream = ap (option_map stream_with) c.known_stream-known.ensures.is_known in
    let s : start ≡ min (length bytes) from = search rules in
    let depth = known_depth c.known_stream-known.result c.known_stream-known.ensures.bit_depth in
    let h = rw (c.in-Ok-None.is, c.in-Ok-None.field-0-is) at c.header_at_start.ensures.at_start in
    let there = header_at_position info bytes from capacity start s known stream None same (header_of_ok known _ None h) in
    let larger = not_larger_there stream (drop from bytes) capacity None there (λ x. x) in
    let none = at_position known stream bytes from start (Ok None) 0 same s (none_at_start known depth _ h) in
    (refl, inr (inl (record { not_larger = larger; status_is = refl; count = 0; none = none }, refl, refl)))

pub returns-in-Err-clause-next_block : goal.returns-in-Err-clause-next_block
returns-in-Err-clause-next_block c =
    let from = c.args.at.now in
    let start = c.min-start.result in
    let bytes = c.args.bytes.now in
    let capacity = c.args.capacity in
    let info = c.args.info.now in
    let stream = known_stream info in
    let known = option_map stream_with c.known_stream-known.result in
    let same : known ≡ stream = ap (option_map stream_with) c.known_stream-known.ensures.is_known in
    let s : start ≡ min (length bytes) from = search rules in
    let depth = known_depth c.known_stream-known.result c.known_stream-known.ensures.bit_depth in
    let e = c.in-Err.fault in
    let r : FrameAnswer = Err e in
    let h = rw c.in-Err.is at c.header_at_start.ensures.at_start in
    let other = rw c.in-Err.is at c.header_at_start.ensures.never_out_of_memory in
    let there = header_at_position info bytes from capacity start s known stream None same (no_header_of_err known _ e h) in
    let larger = not_larger_there stream (drop from bytes) capacity None there (λ x. x) in
    let refused = at_position known stream bytes from start r 0 same s (refused_at_start known depth _ e (λ m. other (ap (λ (x : Error). let q : FoundHeader = Err x in q) m)) h) in
    (refl, inr (inr (record { not_larger = larger; error = e; count = 0; refused = refused; reported = c.report.ensures.is_reported }, refl)))

pub returns-then-has_larger-clause-next_block : goal.returns-then-has_larger-clause-next_block
returns-then-has_larger-clause-next_block c =
    let from = c.args.at.now in
    let start = c.min-start.result in
    let bytes = c.args.bytes.now in
    let capacity = c.args.capacity in
    let info = c.args.info.now in
    let stream = known_stream info in
    let known = option_map stream_with c.known_stream-known.result in
    let same : known ≡ stream = ap (option_map stream_with) c.known_stream-known.ensures.is_known in
    let s : start ≡ min (length bytes) from = search rules in
    let h = rw (c.in-Ok-Some.is, c.in-Ok-Some.field-0-is) at c.header_at_start.ensures.at_start in
    let said = c.info-said.result in
    let there = header_at_position info bytes from capacity start s known stream (Some said) same (rw c.info-said.ensures h.sound) in
    (refl, inl (too_small_there info bytes from capacity start s (Some said) c.from_header.result there (c.if-has_larger.ensures.0 refl) c.from_header.ensures.shows_info, refl))

pub returns-in-Ok-clause-next_block : goal.returns-in-Ok-clause-next_block
returns-in-Ok-clause-next_block c =
    let from = c.args.at.now in
    let start = c.min-start.result in
    let bytes = c.args.bytes.now in
    let capacity = c.args.capacity in
    let info = c.args.info.now in
    let stream = known_stream info in
    let known = option_map stream_with c.known_stream-known.result in
    let same : known ≡ stream = ap (option_map stream_with) c.known_stream-known.ensures.is_known in
    let s : start ≡ min (length bytes) from = search rules in
    let h = rw (c.in-Ok-Some.is, c.in-Ok-Some.field-0-is) at c.header_at_start.ensures.at_start in
    let said = c.info-said.result in
    let there = header_at_position info bytes from capacity start s known stream (Some said) same (rw c.info-said.ensures h.sound) in
    let found = c.in-Ok.found in
    let count = c.rest_at_start-decoded.new.taken in
    let frame = at_position known stream bytes from start (Ok (Some found)) count same s (rw c.in-Ok.is at c.rest_at_start-decoded.ensures.at_start) in
    (decoded_there info bytes from capacity start s found count (Some said) c.from_header-in-Ok.result frame there (unless_true c.if-has_larger.ensures) c.from_header-in-Ok.ensures.shows_info, refl)

pub returns-in-Err-decoded-clause-next_block : goal.returns-in-Err-decoded-clause-next_block
returns-in-Err-decoded-clause-next_block c =
    let from = c.args.at.now in
    let start = c.min-start.result in
    let bytes = c.args.bytes.now in
    let capacity = c.args.capacity in
    let info = c.args.info.now in
    let stream = known_stream info in
    let known = option_map stream_with c.known_stream-known.result in
    let same : known ≡ stream = ap (option_map stream_with) c.known_stream-known.ensures.is_known in
    let s : start ≡ min (length bytes) from = search rules in
    let h = rw (c.in-Ok-Some.is, c.in-Ok-Some.field-0-is) at c.header_at_start.ensures.at_start in
    let said = c.info-said.result in
    let there = header_at_position info bytes from capacity start s known stream (Some said) same (rw c.info-said.ensures h.sound) in
    let e = c.in-Err-decoded.fault in
    let count = c.rest_at_start-decoded.new.taken in
    let larger = not_larger_there stream (drop from bytes) capacity (Some said) there (unless_true c.if-has_larger.ensures) in
    let refused = at_position known stream bytes from start _ count same s (rw c.in-Err-decoded.is at c.rest_at_start-decoded.ensures.at_start) in
    (refl, inr (inr (record { not_larger = larger; error = e; count = count; refused = refused; reported = c.report-in-Err-decoded.ensures.is_reported }, refl)))

-- ---- memory

pub returns-in-Err-clause-memory_is_counted : goal.returns-in-Err-clause-memory_is_counted
returns-in-Err-clause-memory_is_counted c =
    let e = c.in-Err.fault in
    let other = rw c.in-Err.is at c.header_at_start.ensures.never_out_of_memory in
    record {
      refused = λ out. absurd (let status : c.report.result ≡ out_of_memory = cc out in
          other (ap (λ (x : Error). let q : FoundHeader = Err x in q) (is_out_of_memory _ _ _ e status c.report.ensures.is_reported)));
      granted = λ kept. refl;
    }

pub returns-in-Ok-clause-memory_is_counted : goal.returns-in-Ok-clause-memory_is_counted
returns-in-Ok-clause-memory_is_counted c =
    let counted = rw c.in-Ok.is at c.rest_at_start-decoded.ensures.memory_is_counted in
    record { refused = λ out. absurd (cc out); granted = λ kept. counted.granted (λ out. absurd (cc out)) }

pub returns-in-Err-decoded-clause-memory_is_counted : goal.returns-in-Err-decoded-clause-memory_is_counted
returns-in-Err-decoded-clause-memory_is_counted c =
    let e = c.in-Err-decoded.fault in
    let counted = rw c.in-Err-decoded.is at c.rest_at_start-decoded.ensures.memory_is_counted in
    let reported = c.report-in-Err-decoded.ensures.is_reported in
    record {
      refused = λ out. let status : c.report-in-Err-decoded.result ≡ out_of_memory = cc out in
          counted.refused (ap (λ (x : Error). Err x) (is_out_of_memory _ _ _ e status reported));
      granted = λ kept. counted.granted (λ out. let is : e ≡ OutOfMemory = cc out in kept (ap (λ (x : ℕ). Err x) (reported_out_of_memory _ _ _ e is reported)));
    }
