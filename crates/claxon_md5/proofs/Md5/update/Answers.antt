use Rattle.std.proofs.Common.{rules, ◌≡◌, ◌∙◌, ◌%◌, ◌-◌, ◌+◌, ◌++◌, length, fold, refl, ap, sym}
use Rattle.std.proofs.Common.{arith}
use Rattle.claxon_md5.specs.Md5.{process}
use Rattle.claxon_md5.specs.declared.Md5.{Md5}
use Rattle.claxon_md5.proofs.Hashing.{continued, few_kept, counted}
use Rattle.claxon_md5.proofs.Hashing.{IsEmptied, was_empty, filled, rest_kept}
use Rattle.claxon_md5.proofs.Md5.update.Goals as goal
use Rattle.claxon_md5.proofs.Md5.update.Goals.{then-left-gt0+else-bytes-missing, else-left-gt0}

pub returns-then-bytes-missing : goal.returns-then-bytes-missing
returns-then-bytes-missing c =
    let old = c.args.self.now in
    let put = c.copy_from_slice.new.self in
    let same = c.copy_from_slice.ensures.after in
    let size : length old.buffer ≡ 64 = search rules in
    let bytes = c.args.bytes.now in record {
      hashes_bytes = continued _ _ _
          (few_kept old _ bytes put _ _ size refl (omega arith) same refl refl (omega arith));
    }

pub returns : goal.returns
returns c =
    let old = c.args.self.now in
    let emptied = c.if-left-gt0.self in
    let bytes = c.args.bytes.now in
    let rest = c.if-left-gt0.rest.now in
    let size : length old.buffer ≡ 64 = search rules in
    let is_emptied : IsEmptied old bytes emptied rest = elim c.if-left-gt0.branch [
      | then-left-gt0+else-bytes-missing w ↦
          let first = w.split_at.result.0.now in
          let put = w.copy_from_slice-then-left-gt0.new.self in
          let same = w.copy_from_slice-then-left-gt0.ensures.after in
          let remains = ap (λ r. r.now) w.rest-is in
          let cut = w.split_at.ensures.by_index.0 ∙ ap (λ ys. first ++ ys) (sym remains) in
          let width : length first ≡ 64 - old.length % 64 = w.split_at.ensures.front_len in
          let full : old.length % 64 + length first ≡ 64 = omega arith in
          let state = ap (λ (m : Md5). m.state) w.self-is ∙ w.process-state.ensures in
          let count : emptied.length ≡ counted old bytes =
          ap (λ (m : Md5). m.length) w.self-is ∙ omega arith in
          filled old emptied bytes first rest put _ _ size refl full (omega arith) cut same
          state count
      | else-left-gt0 w ↦
          let state = ap (λ (m : Md5). m.state) w.self-is in
          let count : emptied.length ≡ counted old bytes =
          ap (λ (m : Md5). m.length) w.self-is ∙ omega arith in
          let none = w.if-left-gt0.false in
          was_empty old emptied bytes rest none (ap (λ r. r.now) w.rest-is) state count
    ] in
    let put = c.copy_from_slice-2.new.self in
    let left = c.copy_from_slice-2.ensures.after ∙ c.as_chunks.ensures.back in
    let words = c.process_all-state.ensures
    ∙ ap (fold process emptied.state) c.as_chunks.ensures.front in
    record {
      hashes_bytes = continued _ _ _
          (rest_kept old emptied _ bytes rest put _ size is_emptied left words refl refl);
    }
