-- Bytes that were written or are pending.
use Rattle.std.proofs.Common.{◌≡◌, inr, ℕ, ◌+◌, List, [], ◌++◌, length, take, drop, Option, None, Some, refl, sym, ap, subst, ◌∙◌, append_assoc, arith, length-append, ℤ, ◌≤◌}
use Rattle.std.specs.Prelude.{IfErr, OnOk, OnErr, Result, Ok, Err}
use Rattle.std.specs.Io.KnownBytes.{Appends, Keeps, append_known}
use Rattle.std.proofs.Math.Seq.{take-add}
use Rattle.std.proofs.lemmas.List.{append-nil, append_cancel_left, take_at, drop_at, length-take, take_all, take-append-drop}
use Rattle.claxon.specs.Streams.{interleave, duration_of}
use Rattle.claxon.specs.Error.{IsIo}
use Rattle.claxon.specs.Errors.{Error}
use Rattle.claxon.specs.Interleave.{interleave_range}
use Rattle.claxon_write.specs.SampleBytes.{bytes_of_samples}
use Rattle.claxon.proofs.Interleaving.{range_all}
use Rattle.claxon_write.specs.Output.{FlushFaultIsSound, FlushIsSound}
use Rattle.claxon_write.specs.Capacity.{capacity}
use Rattle.claxon_write.specs.CountingWriter.{failed_flushes_of, failed_seeks_of, failed_writes_of, inner_contents}
use Rattle.claxon_write.specs.Written.{AppendsAllBut, AppendsPrefix, FailsToPut, OneFlushFailed, IsFlushed, IsUnflushed, KeepsContents, NonePending, NothingFailed, Puts, OneWriteFailed, writer_contents, contents_with_pending, pending}
use Rattle.claxon_write.proofs.Counts.{none_failed, none_failed_both, write_failed_after, flush_failed_after, flushed_after}
use Rattle.claxon_write.specs.declared.counting_writer.CountingWriter.{CountingWriter}
use Rattle.claxon_write.specs.declared.output.Output.{Output}

pub appends_nothing : (o : Option (List ℕ)) → Appends o o []
appends_nothing None = tt
appends_nothing (Some xs) = sym (append-nil xs)

pub appends_keeps : (a b c : Option (List ℕ)) (xs : List ℕ) → Appends a b xs → Keeps b c → Appends a c xs
appends_keeps None b c xs h k = tt
appends_keeps (Some x) None c xs h k = absurd h
appends_keeps (Some x) (Some y) None xs h k = absurd k
appends_keeps (Some x) (Some y) (Some z) xs h k = k ∙ h

-- a prefix was written before the failure
pub prefix_kept : (a b c : Option (List ℕ)) (at : ℕ) (xs : List ℕ) → Appends a b (take at xs) → Keeps b c → AppendsPrefix a c xs
prefix_kept a b c at xs h k = (at, appends_keeps a b c (take at xs) h k)

-- all bytes are a prefix
pub prefix_all : (a b : Option (List ℕ)) (xs : List ℕ) → Appends a b xs → AppendsPrefix a b xs
prefix_all a b xs h = (length xs, subst (λ (z : List ℕ). Appends a b z) (sym (take_all (length xs) xs (omega arith))) h)

pub prefix_none : (a : Option (List ℕ)) (xs : List ℕ) → AppendsPrefix a a xs
prefix_none a xs = (0, appends_nothing a)

pub prefix_of_kept : (a b : Option (List ℕ)) (xs : List ℕ) → Keeps a b → AppendsPrefix a b xs
prefix_of_kept None b xs k = (0, tt)
prefix_of_kept (Some x) None xs k = absurd k
prefix_of_kept (Some x) (Some y) xs k = (0, k ∙ sym (append-nil x))

-- ---- pending bytes

-- more bytes are pending
pub more_pending : (a : Option (List ℕ)) (w bytes : List ℕ) → Appends (append_known a w) (append_known a (w ++ bytes)) bytes
more_pending None w bytes = tt
more_pending (Some x) w bytes = sym (append_assoc x w bytes)

-- the pending bytes were written
pub pending_written : (a b : Option (List ℕ)) (w : List ℕ) → Appends a b w → Appends (append_known a w) (append_known b []) []
pending_written None b w h = tt
pending_written (Some x) None w h = absurd h
pending_written (Some x) (Some y) w h = ap (λ (z : List ℕ). z ++ []) h

-- with nothing pending the contents are all bytes
pub contents_alone : (a b : Option (List ℕ)) (w bytes : List ℕ) → w ≡ [] → Appends a (append_known b w) bytes → Appends a b bytes
contents_alone None b w bytes e h = tt
contents_alone (Some x) None w bytes e h = absurd h
contents_alone (Some x) (Some y) w bytes e h = (let k = rw e at h in sym (append-nil y) ∙ k)

-- bytes pending before and bytes put are the bytes written and those pending now
whole : (x y wa wb xs ys : List ℕ) (j : ℕ) → y ≡ x ++ take j (wa ++ xs) → y ++ wb ≡ (x ++ wa) ++ xs → wa ++ (xs ++ ys) ≡ take j (wa ++ xs) ++ (wb ++ ys)
whole x y wa wb xs ys j f e =
    let p = take j (wa ++ xs) in
    let both : x ++ (p ++ wb) ≡ x ++ (wa ++ xs) = sym (append_assoc x p wb) ∙ ap (λ (t : List ℕ). t ++ wb) (sym f) ∙ e ∙ append_assoc x wa xs in
    let same : p ++ wb ≡ wa ++ xs = append_cancel_left x (p ++ wb) (wa ++ xs) both in
    sym (append_assoc wa xs ys) ∙ ap (λ (t : List ℕ). t ++ ys) (sym same) ∙ append_assoc p wb ys

prefixes : (x y z wa wb xs ys : List ℕ) (j k : ℕ) → y ≡ x ++ take j (wa ++ xs) → y ++ wb ≡ (x ++ wa) ++ xs → z ≡ y ++ take k (wb ++ ys) → z ≡ x ++ take (length (take j (wa ++ xs)) + k) (wa ++ (xs ++ ys))
prefixes x y z wa wb xs ys j k f e g =
    let p = take j (wa ++ xs) in
    let cut : take (length p + k) (p ++ (wb ++ ys)) ≡ p ++ take k (wb ++ ys) = take-add (length p) k (p ++ (wb ++ ys)) ∙ (rw (take_at p (wb ++ ys) (length p) refl, drop_at p (wb ++ ys) (length p) refl) refl) in
    g ∙ ap (λ (t : List ℕ). t ++ take k (wb ++ ys)) f ∙ append_assoc x p (take k (wb ++ ys)) ∙ ap (λ (t : List ℕ). x ++ t) (sym cut ∙ ap (take (length p + k)) (sym (whole x y wa wb xs ys j f e)))

few_missing : (s p t : List ℕ) (k m : ℕ) → s ≡ p ++ t → length t ≤ k + m → length s ≤ length p + k + m
few_missing s p t k m e le = let l : length s ≡ length p + length t = ap length e ∙ length-append p t in omega arith

-- at most those pending and those put last are missing
prefix_close : (a b c : Option (List ℕ)) (wa wb xs ys : List ℕ) (m : ℕ) → AppendsPrefix a b (wa ++ xs) → Appends (append_known a wa) (append_known b wb) xs → AppendsAllBut m b c (wb ++ ys) → AppendsAllBut m a c (wa ++ (xs ++ ys))
prefix_close None b c wa wb xs ys m f e g = (length (wa ++ (xs ++ ys)), tt, omega arith)
prefix_close (Some x) None c wa wb xs ys m f e g = absurd e
prefix_close (Some x) (Some y) None wa wb xs ys m f e g = absurd g.1
prefix_close (Some x) (Some y) (Some z) wa wb xs ys m f e g =
    (length (take f.0 (wa ++ xs)) + g.0, prefixes x y z wa wb xs ys f.0 g.0 f.1 e g.1, few_missing (wa ++ (xs ++ ys)) (take f.0 (wa ++ xs)) (wb ++ ys) g.0 m (whole x y wa wb xs ys f.0 f.1 e) g.2)

pub fewer : (m n : ℕ) (a b : Option (List ℕ)) (bytes : List ℕ) → m ≤ n → AppendsAllBut m a b bytes → AppendsAllBut n a b bytes
fewer m n a b bytes le h = let l : length bytes ≤ h.0 + m = h.2 in (h.0, h.1, omega arith)

pub prefix_both : (a b c : Option (List ℕ)) (wa wb xs ys : List ℕ) → AppendsPrefix a b (wa ++ xs) → Appends (append_known a wa) (append_known b wb) xs → AppendsPrefix b c (wb ++ ys) → AppendsPrefix a c (wa ++ (xs ++ ys))
prefix_both None b c wa wb xs ys f e g = (0, tt)
prefix_both (Some x) None c wa wb xs ys f e g = absurd e
prefix_both (Some x) (Some y) None wa wb xs ys f e g = absurd g.1
prefix_both (Some x) (Some y) (Some z) wa wb xs ys f e g = (length (take f.0 (wa ++ xs)) + g.0, prefixes x y z wa wb xs ys f.0 g.0 f.1 e g.1)

appends_both : (a b c : Option (List ℕ)) (xs ys : List ℕ) → Appends a b xs → Appends b c ys → Appends a c (xs ++ ys)
appends_both None b c xs ys h k = tt
appends_both (Some x) None c xs ys h k = absurd h
appends_both (Some x) (Some y) None xs ys h k = absurd k
appends_both (Some x) (Some y) (Some z) xs ys h k = k ∙ (ap (λ t. t ++ ys) h ∙ append_assoc x xs ys)

-- a list is a prefix of it and the rest
take_parts : (k : ℕ) (s : List ℕ) → s ≡ take k s ++ drop k s
take_parts k s = sym (take-append-drop k s)

-- ---- one after another

module _ {W : Type 0} {contents : W → Option (List ℕ)} where
  pub puts_none : (a : Output W) → Puts contents [] a a
  puts_none a = record { prefix = prefix_none (writer_contents contents a) (pending a ++ []); bytes_are = appends_nothing (contents_with_pending contents a); nothing_failed = none_failed a.writer }

  pub puts_both : {xs ys : List ℕ} {a b c : Output W} → Puts contents xs a b → Puts contents ys b c → Puts contents (xs ++ ys) a c
  puts_both {xs = xs} {ys = ys} {a = a} {b = b} {c = c} h k = record {
    prefix = prefix_both (writer_contents contents a) (writer_contents contents b) (writer_contents contents c) (pending a) (pending b) xs ys h.prefix h.bytes_are k.prefix;
    bytes_are = appends_both (contents_with_pending contents a) (contents_with_pending contents b) (contents_with_pending contents c) xs ys h.bytes_are k.bytes_are;
    nothing_failed = none_failed_both h.nothing_failed k.nothing_failed;
  }

  pub puts_as : {xs ys : List ℕ} {a b : Output W} → xs ≡ ys → Puts contents xs a b → Puts contents ys a b
  puts_as {a = a} {b = b} e h = subst (λ (z : List ℕ). Puts contents z a b) e h

  -- at most the capacity and the bytes put last are missing
  pub fails_close : {xs ys : List ℕ} {error : Error} {a b c : Output W} → Puts contents xs a b → FailsToPut contents ys error b c → AppendsAllBut (capacity + length ys) (writer_contents contents a) (writer_contents contents c) (pending a ++ (xs ++ ys))
  fails_close {xs = xs} {ys = ys} {a = a} {b = b} {c = c} h k = prefix_close (writer_contents contents a) (writer_contents contents b) (writer_contents contents c) (pending a) (pending b) xs ys (capacity + length ys) h.prefix h.bytes_are k.prefix

  pub fails_after : {xs ys : List ℕ} {error : Error} {a b c : Output W} → Puts contents xs a b → FailsToPut contents ys error b c → FailsToPut contents (xs ++ ys) error a c
  fails_after {xs = xs} {ys = ys} {a = a} {b = b} {c = c} h k = record {
    is_io = k.is_io;
    failed = write_failed_after h.nothing_failed k.failed;
    prefix = fewer (capacity + length ys) (capacity + length (xs ++ ys)) (writer_contents contents a) (writer_contents contents c) (pending a ++ (xs ++ ys)) (omega (arith, length-append xs ys)) (fails_close h k);
    none_pending = k.none_pending;
  }

  pub fails_as : {xs ys : List ℕ} {error : Error} {a b : Output W} → xs ≡ ys → FailsToPut contents xs error a b → FailsToPut contents ys error a b
  fails_as {error = error} {a = a} {b = b} e h = subst (λ (z : List ℕ). FailsToPut contents z error a b) e h

  -- a failure to put a prefix is a failure to put all
  pub fails_more : {xs : List ℕ} (ys : List ℕ) {error : Error} {a b : Output W} → FailsToPut contents xs error a b → FailsToPut contents (xs ++ ys) error a b
  fails_more {xs = xs} ys {a = a} {b = b} h = record {
    is_io = h.is_io;
    failed = h.failed;
    prefix = fewer (capacity + length xs + length ys) (capacity + length (xs ++ ys)) (writer_contents contents a) (writer_contents contents b) (pending a ++ (xs ++ ys)) (omega (arith, length-append xs ys)) (longer (writer_contents contents a) (writer_contents contents b) (pending a) xs ys (capacity + length xs) h.prefix);
    none_pending = h.none_pending;
  }
    where
      longer : (p q : Option (List ℕ)) (w xs ys : List ℕ) (m : ℕ) → AppendsAllBut m p q (w ++ xs) → AppendsAllBut (m + length ys) p q (w ++ (xs ++ ys))
      longer p q w xs ys m f =
          let prefix : List ℕ = take f.0 (w ++ xs) in
          let l : length (w ++ xs) ≤ f.0 + m = f.2 in
          (length prefix, subst (λ (z : List ℕ). Appends p q z) (cut (w ++ xs) ys f.0 ∙ ap (take (length prefix)) (append_assoc w xs ys)) f.1, missing (w ++ xs) ys (w ++ (xs ++ ys)) f.0 m (append_assoc w xs ys) l)
        where
          missing : (s t u : List ℕ) (k m : ℕ) → s ++ t ≡ u → length s ≤ k + m → length u ≤ length (take k s) + (m + length t)
          missing s t u k m e le = let l : length u ≡ length s + length t = sym (ap length e) ∙ length-append s t in omega (arith, length-take k s)

          cut : (s t : List ℕ) (k : ℕ) → take k s ≡ take (length (take k s)) (s ++ t)
          cut s t k =
              let p : List ℕ = take k s in
              sym (ap (λ (z : List ℕ). take (length p) (z ++ t)) (take_parts k s) ∙ ap (take (length p)) (append_assoc p (drop k s) t) ∙ take_at p (drop k s ++ t) (length p) refl)

still_pending : (p q : Option (List ℕ)) (w : List ℕ) → Keeps p q → Appends (append_known p w) (append_known q w) []
still_pending None q w k = tt
still_pending (Some x) None w k = absurd k
still_pending (Some x) (Some y) w k = ap (λ (z : List ℕ). z ++ w) k ∙ sym (append-nil (x ++ w))

-- ---- the calls of the writer

module _ {W : Type 0} (contents : W → Option (List ℕ)) where
  pub gathered_ok : (r : Result (Unit {0}) Error) (a b : Output W) (bytes : List ℕ) → bytes ≡ pending a → NonePending b → OnOk r (Appends (writer_contents contents a) (writer_contents contents b) bytes) → OnOk r (NothingFailed a b)
      → OnOk r (Puts contents [] a b)
  gathered_ok (Err e) a b bytes same none h k = tt
  gathered_ok (Ok x) a b bytes same none h k =
      let w : Appends (writer_contents contents a) (writer_contents contents b) (pending a) = subst (λ (z : List ℕ). Appends (writer_contents contents a) (writer_contents contents b) z) same h in
      record {
        prefix = subst (λ (z : List ℕ). AppendsPrefix (writer_contents contents a) (writer_contents contents b) z) (sym (append-nil (pending a))) (prefix_all (writer_contents contents a) (writer_contents contents b) (pending a) w);
        bytes_are = subst (λ (z : List ℕ). Appends (contents_with_pending contents a) (append_known (writer_contents contents b) z) []) (sym none) (pending_written (writer_contents contents a) (writer_contents contents b) (pending a) w);
        nothing_failed = k;
      }

  pub gathered_err : (r : Result (Unit {0}) Error) (a b : Output W) (bytes : List ℕ) → bytes ≡ pending a → NonePending b → IfErr r (λ e. IsIo e) → OnErr r (AppendsPrefix (writer_contents contents a) (writer_contents contents b) bytes)
      → OnErr r (OneWriteFailed a b) → length bytes ≤ capacity → IfErr r (λ e. FailsToPut contents [] e a b)
  gathered_err (Ok x) a b bytes same none i h k few = tt
  gathered_err (Err e) a b bytes same none i h k few = record {
    is_io = i;
    failed = k;
    prefix = subst (λ (z : List ℕ). AppendsAllBut (capacity + 0) (writer_contents contents a) (writer_contents contents b) z) (same ∙ sym (append-nil (pending a))) (h.0, h.1, omega arith);
    none_pending = none;
  }

  -- all pending bytes were written, and then the writer was flushed
  module _ (r : Result (Unit {0}) Error) (a b c : Output W) (h : Puts contents [] a b) (u : IsUnflushed a b) (k : KeepsContents contents b c) (f : IsFlushed b c) where
    pub flushed_ok : pending c ≡ pending b → OnOk r (NothingFailed b c) → FlushIsSound contents r a c
    flushed_ok w t = go r t
      where
        go : (r : Result (Unit {0}) Error) → OnOk r (NothingFailed b c) → FlushIsSound contents r a c
        go (Err e) t = tt
        go (Ok x) t = (
          puts_both h (record {
            prefix = prefix_of_kept (writer_contents contents b) (writer_contents contents c) (pending b ++ []) k;
            bytes_are = subst (λ (z : List ℕ). Appends (contents_with_pending contents b) (append_known (writer_contents contents c) z) []) (sym w) (still_pending (writer_contents contents b) (writer_contents contents c) (pending b) k);
            nothing_failed = t;
          }),
          flushed_after u f,
        )

    pub flushed_err : NonePending b → NonePending c → IfErr r (λ e. IsIo e) → OnErr r (OneFlushFailed b c) → FlushFaultIsSound contents r a c
    flushed_err none w i t = go r i t
      where
        go : (r : Result (Unit {0}) Error) → IfErr r (λ e. IsIo e) → OnErr r (OneFlushFailed b c) → FlushFaultIsSound contents r a c
        go (Ok x) i t = tt
        go (Err e) i t = inr (record {
          is_io = i;
          failed = flush_failed_after h.nothing_failed t;
          flushed = flushed_after u f;
          written = appends_keeps (contents_with_pending contents a) (writer_contents contents b) (writer_contents contents c) [] (contents_alone (contents_with_pending contents a) (writer_contents contents b) (pending b) [] none h.bytes_are) k;
          none_pending = w;
        })

  -- more bytes are pending, and the writer was not called
  pub puts_pending : (a b : Output W) (bytes : List ℕ) → b.writer ≡ a.writer → pending b ≡ pending a ++ bytes → Puts contents bytes a b
  puts_pending a b bytes same more =
      let h : writer_contents contents b ≡ writer_contents contents a = ap (λ (w : CountingWriter W). inner_contents contents w) same in
      record {
        prefix = subst (λ (o : Option (List ℕ)). AppendsPrefix (writer_contents contents a) o (pending a ++ bytes)) (sym h) (prefix_none (writer_contents contents a) (pending a ++ bytes));
        bytes_are = rw (h, more) (more_pending (writer_contents contents a) (pending a) bytes);
        nothing_failed = record { writes = ap failed_writes_of same; flushes = ap failed_flushes_of same; seeks = ap failed_seeks_of same };
      }

-- ---- samples as bytes

pub bytes_all : (channels : List (List ℤ)) (n : ℕ) → n ≡ duration_of channels → bytes_of_samples (interleave_range channels 0 n) ≡ bytes_of_samples (interleave channels)
bytes_all channels n e = ap (λ (j : ℕ). bytes_of_samples (interleave_range channels 0 j)) e ∙ ap bytes_of_samples (range_all channels)
