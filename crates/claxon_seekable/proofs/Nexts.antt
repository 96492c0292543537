-- What is promised of the next block, by what comes next.
use Rattle.std.proofs.Common.{◌≡◌, inl, inr, ℕ, ◌+◌, true, List, length, Option, None, Some, sym, ap, subst, arith}
use Rattle.std.specs.Prelude.{Ok, Err, IsOkAnd, IsSomeAnd}
use Rattle.std.proofs.lemmas.Bool.{eqb-true, false≢true}
use Rattle.std.specs.Global.{Global}
use Rattle.claxon.specs.Block.{BlockValue}
use Rattle.claxon.specs.BlockInfos.{BlockInfo}
use Rattle.claxon.specs.DecodedFrames.{DecodedFrame}
use Rattle.claxon.specs.Error.{IsFault, IsIo}
use Rattle.claxon.specs.Errors.{Error}
use Rattle.claxon.specs.Errors.TheVariants.{FormatError, IoError, OutOfMemory, Unsupported}
use Rattle.claxon.specs.Fault.{Fault}
use Rattle.claxon.specs.Frame.{Block}
use Rattle.claxon.specs.FrameReader.{FrameAnswer, block_view}
use Rattle.claxon.specs.Promises.{IsOutOfMemory}
use Rattle.claxon_stream.specs.declared.event.Event.{Event}
use Rattle.claxon_stream.specs.declared.event.Event.TheVariants.{Cut, Decoded, End, Faulty, ReadOn}
use Rattle.claxon_stream.specs.declared.event.NeededBytes.{NeededBytes}
use Rattle.claxon_stream.specs.declared.event.StreamFault.{StreamFault}
use Rattle.claxon_seekable.specs.Searches.{spent_budgets}
use Rattle.claxon_seekable.specs.SeekableReader.{BlockHasSample, NextFaultIsSound, NextHasSample, NextIsComplete, NextIsCounted, NextIsSound, NextKeepsBytes, NextNoneIsEof, NothingFailed, bytes_from, next_event_is, reader_position}
use Rattle.claxon_seekable.specs.Source.{is_position}
use Rattle.claxon_seekable.specs.Window.{held, place}
use Rattle.claxon_seekable.specs.declared.reader.SeekableReader.{SeekableReader}
use Rattle.claxon_seekable.proofs.BytesRead.{held_here}

-- all that is promised
pub record NextPromises {R : Type 0} (remaining : R → Option (List ℕ)) (old : SeekableReader R) (result : FrameAnswer) (new : SeekableReader R) : Type 0 where
  pub has_sample : NextHasSample old result new
  pub is_complete : NextIsComplete old result new
  pub is_sound : NextIsSound old result new
  pub none_is_eof : NextNoneIsEof remaining old result new
  pub fault_is_sound : NextFaultIsSound old result new
  pub keeps_bytes : NextKeepsBytes old new
  pub is_counted : NextIsCounted old result new

-- what an error is not
io_is_no_memory : (e : Error) → IsIo e → e ≡ OutOfMemory → ⊥
io_is_no_memory (IoError cause) io is = cc
io_is_no_memory OutOfMemory io is = false≢true io
io_is_no_memory (FormatError text) io is = cc
io_is_no_memory (Unsupported text) io is = cc

fault_is_no_io : (f : Fault) (e : Error) → IsFault f e → IsIo e → ⊥
fault_is_no_io f (IoError cause) is io = is
fault_is_no_io f OutOfMemory is io = is
fault_is_no_io f (FormatError text) is io = false≢true io
fault_is_no_io f (Unsupported text) is io = false≢true io

fault_is_no_memory : (f : Fault) (e : Error) → IsFault f e → e ≡ OutOfMemory → ⊥
fault_is_no_memory f (IoError cause) is m = is
fault_is_no_memory f OutOfMemory is m = is
fault_is_no_memory f (FormatError text) is m = cc
fault_is_no_memory f (Unsupported text) is m = cc

ok_is_no_memory : {A : Type 0} (x : A) (P : Type 0) → IsOutOfMemory {A = A} (Ok x) → P
ok_is_no_memory x P is = cc

memory_as : (e : Error) → IsOutOfMemory {A = Event} (Err e) → IsOutOfMemory {A = Option BlockValue} (Err e)
memory_as e is = let same : e ≡ OutOfMemory = cc in ap (λ (x : Error). let r : FrameAnswer = Err x in r) same

-- where there was no byte
ended : (o : Option ℕ) (position : ℕ) → is_position o position ≡ true → o ≡ Some position
ended None position e = absurd (false≢true e)
ended (Some end) position e = ap (λ (n : ℕ). Some n) (eqb-true end position e)

-- the block at the position has the sample, if it is complete
block_has : (P : Block → Type 0) (block : Block) (r : FrameAnswer) → P block → IsOkAnd r (λ found. IsSomeAnd found (λ x. block_view x ≡ block)) → IsOkAnd r (λ found. IsSomeAnd found (λ x. P (block_view x)))
block_has P block (Ok (Some x)) p is = subst P (sym is) p
block_has P block (Ok None) p is = is
block_has P block (Err e) p is = is

module _ {R : Type 0} (remaining : R → Option (List ℕ)) (old new : SeekableReader R) where
  sample_by : (r : FrameAnswer) → NextIsComplete old r new → NextHasSample old r new
  sample_by r complete sample info at =
      let f = at.frame.frame in
      let block = f.0 in
      let says = f.2 in
      let long = ap (λ (i : BlockInfo). i.duration) at.says in
      let has : BlockHasSample sample info.time block = (at.starts, omega (arith, at.ends, long, says.duration_is)) in
      elim (complete block f.1) [
        | inl p ↦ inl (block_has (BlockHasSample sample info.time) block r has p)
        | inr other ↦ inr other
      ]

  nothing_failed : (event : Event) → next_event_is remaining old (Ok event) new → NothingFailed old.frames new.frames
  nothing_failed event g = (g.0.says.0, ap spent_budgets g.1)

  pub decoded : (frame : DecodedFrame Global) → next_event_is remaining old (Ok (Decoded frame)) new → NextPromises remaining old (Ok (Some frame.block)) new
  decoded frame g =
      let is = g.0.says.2.1 in
      let complete : NextIsComplete old (Ok (Some frame.block)) new = λ block begins. elim (g.0.is_timely block begins) [
        | inl p ↦ inl p
        | inr (inl memory) ↦ ok_is_no_memory (Decoded frame) _ memory
        | inr (inr over) ↦ inr (inr over)
      ] in
      record {
        has_sample = sample_by (Ok (Some frame.block)) complete;
        is_complete = complete;
        is_sound = (is.0, (is.1.0, is.1.1, is.1.2.0, is.1.3, is.1.4), is.2);
        none_is_eof = λ e. absurd (some_is_not_none frame.block e);
        fault_is_sound = tt;
        keeps_bytes = g.0.reads_on;
        is_counted = nothing_failed (Decoded frame) g;
      }
    where
      some_is_not_none : (block : BlockValue) → (let o : Option BlockValue = Some block in o) ≡ None → ⊥
      some_is_not_none block e = cc

  pub at_end : next_event_is remaining old (Ok End) new → NextPromises remaining old (Ok None) new
  at_end g =
      let is = g.0.says.2.1 in
      let complete : NextIsComplete old (Ok None) new = λ block begins. elim (g.0.is_timely block begins) [
        | inl none ↦ absurd none
        | inr (inl memory) ↦ ok_is_no_memory End _ memory
        | inr (inr over) ↦ inr (inr over)
      ] in
      let w = new.frames.window in
      let all : length (bytes_from new (reader_position old)) ≡ length (held w) = ap length (held_here (place w) (reader_position old) (held w) g.0.place_is) in
      let told = g.0.end_is_told (place w + length (held w)) (ended w.source.ended_at (place w + length (held w)) is.0) in
      record {
        has_sample = sample_by (Ok None) complete;
        is_complete = complete;
        is_sound = tt;
        none_is_eof = λ e. (is.1, is.0, elim told [ inl empty ↦ inl empty | inr far ↦ inr (omega (arith, far, all, g.0.place_is, is.2)) ], is.2);
        fault_is_sound = tt;
        keeps_bytes = g.0.reads_on;
        is_counted = nothing_failed End g;
      }

  pub faulty : (fault : StreamFault) → next_event_is remaining old (Ok (Faulty fault)) new → NextPromises remaining old (Err fault.error) new
  faulty fault g =
      let is = g.0.says.2.1 in
      let f = is.1.0 in
      let named = is.1.1 in
      let complete : NextIsComplete old (Err fault.error) new = λ block begins. elim (g.0.is_timely block begins) [
        | inl none ↦ absurd none
        | inr (inl memory) ↦ ok_is_no_memory (Faulty fault) _ memory
        | inr (inr over) ↦ inr (inr over)
      ] in
      record {
        has_sample = sample_by (Err fault.error) complete;
        is_complete = complete;
        is_sound = tt;
        none_is_eof = tt;
        fault_is_sound = inr (inr (f, named, is.1.2));
        keeps_bytes = g.0.reads_on;
        is_counted = inr (
          nothing_failed (Faulty fault) g,
          λ io. absurd (fault_is_no_io f fault.error named io),
          λ memory. absurd (fault_is_no_memory f fault.error named memory),
        );
      }

  pub cut : (at : ℕ) (e : Error) → IsIo e → next_event_is remaining old (Ok (Cut at)) new → NextPromises remaining old (Err e) new
  cut at e io g =
      let is = g.0.says.2.1 in
      let complete : NextIsComplete old (Err e) new = λ block begins. elim (g.0.is_timely block begins) [
        | inl none ↦ absurd none
        | inr (inl memory) ↦ ok_is_no_memory (Cut at) _ memory
        | inr (inr over) ↦ inr (inr over)
      ] in
      record {
        has_sample = sample_by (Err e) complete;
        is_complete = complete;
        is_sound = tt;
        none_is_eof = tt;
        fault_is_sound = inr (inl io);
        keeps_bytes = g.0.reads_on;
        is_counted = inr (
          nothing_failed (Cut at) g,
          λ io. record { some = is.2; is_open = is.3; ends = is.1; position = is.4 },
          λ memory. absurd (io_is_no_memory e io memory),
        );
      }

  pub read_on : (needed : NeededBytes) (r : FrameAnswer) → next_event_is remaining old (Ok (ReadOn needed)) new → NextPromises remaining old r new
  read_on needed r g = absurd (g.0.says.1 tt)

  pub failed : (e : Error) → next_event_is remaining old (Err e) new → NextPromises remaining old (Err e) new
  failed e g =
      let stays = g.0.says.0 in
      let spent = ap spent_budgets g.1 in
      let complete : NextIsComplete old (Err e) new = λ block begins. elim (g.0.is_timely block begins) [
        | inl none ↦ absurd none
        | inr (inl memory) ↦ inr (inl (memory_as e memory))
        | inr (inr over) ↦ inr (inr over)
      ] in
      record {
        has_sample = sample_by (Err e) complete;
        is_complete = complete;
        is_sound = tt;
        none_is_eof = tt;
        fault_is_sound = elim g.0.says.1 [
          | inl (inl (io, one, same)) ↦ inr (inl io)
          | inl (inr (memory, same, one)) ↦ inl memory
          | inr (counts, refused) ↦ inl refused.0
        ];
        keeps_bytes = g.0.reads_on;
        is_counted = elim g.0.says.1 [
          | inl failure ↦ inl ((failure, spent), stays)
          | inr (counts, refused) ↦ inr (
            (counts, spent),
            λ io. absurd (io_is_no_memory e io refused.0),
            λ memory. ((reader_position old, refused), stays),
          )
        ];
      }
