-- What the parts of a damaged stream give, one after another.
use Rattle.std.proofs.Common.{◌≡◌, inl, inr, ℕ, ◌+◌, ◌-◌, ◌^◌, ◌≤◌, List, [], ◌∷◌, ◌++◌, length, Option, None, Some, refl, sym, ap, subst, ◌∙◌, append_assoc, append-nil, arith, length-append}
use Rattle.std.specs.Prelude.{◌⊎◌, Result, Ok, Err}
use Rattle.claxon.specs.Errors.{Error as Cause}
use Rattle.claxon.specs.Frame.{Block}
use Rattle.claxon.specs.Source.{Source}
use Rattle.claxon.specs.StreamInfos.{StreamInfo}
use Rattle.claxon_recovery.specs.Parts.{IsPart, PartIsThere, PartStops, SourceIsKnown, after_part, parts_known, parts_memory, parts_position, parts_source, unread}
use Rattle.claxon_recovery.specs.Window.{Reads}
use Rattle.claxon_recovery.proofs.Reading.{reads_both, reads_none}
use Rattle.claxon_recovery.specs.declared.part.Damage.{Damage}
use Rattle.claxon_recovery.specs.declared.part.FrameThere.{FrameThere}
use Rattle.claxon_recovery.specs.declared.part.Part.{Part}
use Rattle.claxon_recovery.specs.declared.part.Part.TheVariants.{Damage as DamagePart, Frame as FramePart}
use Rattle.claxon_recovery.specs.declared.parts.Parts.{Parts}
use Rattle.claxon_seek.specs.BlockMemory.{MemoryIsCounted}
use Rattle.claxon_wav.specs.Convert.{PutsSamples}
use Rattle.claxon_rescue.specs.PutParts.{MakesRoom, NoneLeft, PutPartsFaultIsSound, PutPartsIsSound, PutsPart, PutsParts, PutsWaiting, StopsAtFirst, StopsInFrame, StopsInFrames, StopsRescue}
use Rattle.claxon_rescue.specs.PutSteps.{HashesGiven, NotesRanges, PutGapFaultIsSound, PutGapIsSound, PutsGap, StopsWriting}
use Rattle.claxon_rescue.specs.Rescue.{AreOfStream, GivesFrame, IsOfStream, gap_blocks, gap_ranges, last_sample}
use Rattle.claxon_rescue.specs.RescuedStream.{AreFrames, AreParts, FramesGive, position_after}
use Rattle.claxon_rescue.specs.Times.{first_due}
use Rattle.claxon_rescue.specs.LookAhead.{look_ahead}
use Rattle.claxon_rescue.specs.Waiting.{waiting_frames}
use Rattle.claxon_wav.specs.Writer.{KeepsRoom}
use Rattle.claxon_md5.specs.declared.Md5.{Md5}
use Rattle.std.proofs.lemmas.List.{take_all}
use Rattle.claxon_wav.specs.declared.error.Error.{Error}
use Rattle.claxon_wav.specs.declared.error.Error.TheVariants.{Claxon}
use Rattle.claxon_rescue.specs.declared.due.Due.{Due}
use Rattle.claxon_rescue.specs.declared.due.Rules.{Rules}
use Rattle.claxon_rescue.specs.declared.losses.LostRange.{LostRange}
use Rattle.claxon_rescue.specs.declared.losses.Losses.{Losses}
use Rattle.claxon_rescue.specs.declared.parts.Rescue.{Rescue}
use Rattle.claxon_wav.specs.declared.writer.WavWriter.{WavWriter}
use Rattle.claxon_wav.proofs.Converting.{puts_none}
use Rattle.claxon_rescue.proofs.Rescuing.{given_both, given_none, notes_both, notes_none, puts_both, stops_after}
use Rattle.claxon_rescue.proofs.Waited.{are_of_stream, decided_beyond, frames_both, frames_more, of_stream_after, puts_no_frames}

-- ---- one part more

pub are_more : (info : StreamInfo) (start : ℕ) (s k m : List ℕ) (parts : List Part) (part : Part) → AreParts info start s parts k → IsPart (Some info) (position_after start parts) k m (Some part) → AreParts info start s (parts ++ part ∷ []) m
are_more info start s k m [] part are is = (m, subst (λ (x : List ℕ). IsPart (Some info) start x m (Some part)) (sym are) is, refl)
are_more info start s k m (first ∷ parts) part are is = (are.0, are.1, are_more info (after_part start (Some first)) are.0 k m parts part are.2 is)

pub position_more : (start : ℕ) (parts : List Part) (part : Part) → position_after start (parts ++ part ∷ []) ≡ after_part (position_after start parts) (Some part)
position_more start [] part = refl
position_more start (first ∷ parts) part = position_more (after_part start (Some first)) parts part

same_end : (n m : ℕ) (part : Part) → after_part n (Some part) ≡ after_part m (Some part)
same_end n m (FramePart there) = refl
same_end n m (DamagePart damage) = refl

-- ---- one part

module _ {W : Type 0} (contents : W → Option (List ℕ)) (rules : Rules) where
  -- it has no frame of the stream
  none_added : (old : Rescue) (file : WavWriter W) (part : Part) → AreFrames rules.info (part ∷ []) [] → PutsPart contents rules old old file file part
  none_added old file part are = record {
    adds = [];
    are_frames = are;
    first = [];
    rest = waiting_frames old.waiting;
    were = refl;
    wait = sym (append-nil (waiting_frames old.waiting));
    decided = inl refl;
    puts = puts_no_frames rules old file (waiting_frames old.waiting);
  }

  pub damage_part : (old : Rescue) (file : WavWriter W) (part : Part) → ((there : FrameThere) → part ≡ FramePart there → ⊥) → PutsPart contents rules old old file file part
  damage_part old file (DamagePart damage) other = none_added old file (DamagePart damage) refl
  damage_part old file (FramePart there) other = absurd (other there refl)

  pub other_frame : (old : Rescue) (file : WavWriter W) (part : Part) (there : FrameThere) → part ≡ FramePart there → (IsOfStream rules.info there.frame → ⊥) → PutsPart contents rules old old file file part
  other_frame old file part there is other = subst (λ (p : Part). PutsPart contents rules old old file file p) (sym is) (none_added old file (FramePart there) (inr (other, refl)))

  -- its frame waits
  pub frame_waits : (old mid new : Rescue) (before after : WavWriter W) (part : Part) (there : FrameThere) → part ≡ FramePart there → IsOfStream rules.info there.frame → MakesRoom contents rules old mid before after → new.due ≡ mid.due → new.losses ≡ mid.losses → new.md5 ≡ mid.md5 → waiting_frames new.waiting ≡ waiting_frames mid.waiting ++ there ∷ [] → PutsPart contents rules old new before after part
  frame_waits old mid new before after part there is stream h due losses md5 wait =
      let k = h.puts in
      let rest = waiting_frames mid.waiting in
      record {
        adds = there ∷ [];
        are_frames = subst (λ (p : Part). AreFrames rules.info (p ∷ []) (there ∷ [])) (sym is) (inl (stream, ([], refl, refl)));
        first = h.first;
        rest = rest;
        were = h.were;
        wait = wait;
        decided = h.decided;
        puts = record {
          blocks = k.blocks;
          lost = k.lost;
          gives = subst (λ (d : Due). FramesGive rules old.due h.first rest k.blocks k.lost d) (sym due) k.gives;
          puts = k.puts;
          notes = subst (λ (l : Losses). NotesRanges k.lost old.losses l) (sym losses) k.notes;
          hashes = subst (λ (m : Option Md5). HashesGiven rules.info.bits_per_sample k.lost k.blocks old.md5 m) (sym md5) k.hashes;
        };
      }

-- ---- all parts so far

pub record SoFar {R W : Type 0} (source : R → Source ℕ) (contents : W → Option (List ℕ)) (rules : Rules) (start : ℕ) (before now : Parts R) (old new : WavWriter W) (begun rescue : Rescue) (end count : ℕ) : Type 0 where
  pub parts : List Part
  pub done : List FrameThere
  pub are_frames : AreFrames rules.info parts (done ++ waiting_frames rescue.waiting)
  pub blocks : List Block
  pub lost : List LostRange
  pub long : length parts ≡ count
  pub more : List ℕ
  pub reads : Reads (source (parts_source before)) (source (parts_source now)) more
  pub known : SourceIsKnown source before → SourceIsKnown source now
  pub are_parts : SourceIsKnown source before → AreParts rules.info start (unread source before) parts (unread source now)
  pub at : parts_position now ≡ position_after start parts
  pub end_is : end ≡ position_after start parts
  pub info : parts_known now ≡ Some rules.info
  pub gives : (later : List FrameThere) → FramesGive rules (first_due start) done (waiting_frames rescue.waiting ++ later) blocks lost rescue.due
  pub puts : PutsSamples contents blocks old new
  pub notes : NotesRanges lost begun.losses rescue.losses
  pub hashes : HashesGiven rules.info.bits_per_sample lost blocks begun.md5 rescue.md5
  pub room : KeepsRoom old new
  pub memory : parts_memory now ≡ parts_memory before

module _ {R W : Type 0} (source : R → Source ℕ) (contents : W → Option (List ℕ)) (rules : Rules) (start : ℕ) where
  pub none_so_far : (before : Parts R) (old : WavWriter W) (begun : Rescue) → parts_position before ≡ start → parts_known before ≡ Some rules.info → begun.due ≡ first_due start → waiting_frames begun.waiting ≡ [] → SoFar source contents rules start before before old old begun begun start 0
  none_so_far before old begun at info due waiting = record {
    parts = [];
    done = [];
    are_frames = waiting;
    blocks = [];
    lost = [];
    long = refl;
    more = [];
    reads = reads_none (source (parts_source before));
    known = λ known. known;
    are_parts = λ known. refl;
    at = at;
    end_is = refl;
    info = info;
    gives = λ later. (record { none = refl; same = due }, refl);
    puts = puts_none old;
    notes = notes_none begun.losses;
    hashes = given_none begun.md5;
    room = λ n room. room;
    memory = refl;
  }

  module _ (before now : Parts R) (old new : WavWriter W) (begun rescue : Rescue) (end count : ℕ) (h : SoFar source contents rules start before now old new begun rescue end count) where
    -- the part that is there
    part_there : (next : Parts R) (part : Part) → PartIsThere source now next (Ok (Some part)) → SourceIsKnown source before → IsPart (Some rules.info) (position_after start h.parts) (unread source now) (unread source next) (Some part)
    part_there next part there known = subst (λ (i : Option StreamInfo). IsPart i (position_after start h.parts) (unread source now) (unread source next) (Some part)) h.info (subst (λ (n : ℕ). IsPart (parts_known now) n (unread source now) (unread source next) (Some part)) h.at (there.0.is (h.known known)))

    next_at : (next : Parts R) (part : Part) → PartIsThere source now next (Ok (Some part)) → parts_position next ≡ position_after start (h.parts ++ part ∷ [])
    next_at next part there = there.1 ∙ ap (λ (n : ℕ). after_part n (Some part)) h.at ∙ sym (position_more start h.parts part)

    -- one part more
    module _ (next : Parts R) (part : Part) (z : WavWriter W) (after : Rescue) (puts : PutsPart contents rules rescue after new z part) where
      abbrev now_done : List FrameThere
      now_done = h.done ++ puts.first

      wait_now : (now_done ++ waiting_frames after.waiting) ≡ (h.done ++ waiting_frames rescue.waiting) ++ puts.adds
      wait_now = ap (λ (l : List FrameThere). (h.done ++ puts.first) ++ l) puts.wait ∙ sym (append_assoc (h.done ++ puts.first) puts.rest puts.adds) ∙ ap (λ (l : List FrameThere). l ++ puts.adds) (append_assoc h.done puts.first puts.rest ∙ ap (λ (l : List FrameThere). h.done ++ l) (sym puts.were))

      more_given : (later : List FrameThere) → FramesGive rules (first_due start) now_done (waiting_frames after.waiting ++ later) (h.blocks ++ puts.puts.blocks) (h.lost ++ puts.puts.lost) after.due
      more_given later =
          let k = puts.puts in
          let then_later = puts.adds ++ later in
          let same : waiting_frames rescue.waiting ++ then_later ≡ puts.first ++ (puts.rest ++ then_later) = ap (λ (l : List FrameThere). l ++ then_later) puts.were ∙ append_assoc puts.first puts.rest then_later in
          let one = subst (λ (l : List FrameThere). FramesGive rules (first_due start) h.done l h.blocks h.lost rescue.due) same (h.gives then_later) in
          let two = decided_beyond rules rescue.due after.due puts.first puts.rest then_later k.blocks k.lost puts.decided k.gives in
          let all = frames_both rules (first_due start) rescue.due after.due h.done puts.first (puts.rest ++ then_later) h.blocks k.blocks h.lost k.lost one two in
          let waits : puts.rest ++ then_later ≡ waiting_frames after.waiting ++ later = sym (ap (λ (l : List FrameThere). l ++ later) puts.wait ∙ append_assoc puts.rest puts.adds later) in
          subst (λ (l : List FrameThere). FramesGive rules (first_due start) now_done l (h.blocks ++ k.blocks) (h.lost ++ k.lost) after.due) waits all

      pub one_part : (stop : ℕ) → PartIsThere source now next (Ok (Some part)) → parts_known next ≡ parts_known now → parts_memory next ≡ parts_memory now → stop ≡ after_part 0 (Some part) → KeepsRoom new z → SoFar source contents rules start before next old z begun after stop (count + 1)
      one_part stop there info memory ends room = record {
        parts = h.parts ++ part ∷ [];
        done = now_done;
        are_frames = subst (λ (l : List FrameThere). AreFrames rules.info (h.parts ++ part ∷ []) l) (sym wait_now) (frames_more rules.info h.parts part (h.done ++ waiting_frames rescue.waiting) puts.adds h.are_frames puts.are_frames);
        blocks = h.blocks ++ puts.puts.blocks;
        lost = h.lost ++ puts.puts.lost;
        long = length-append h.parts (part ∷ []) ∙ omega (arith, h.long);
        more = h.more ++ there.0.more;
        reads = reads_both h.reads there.0.reads;
        known = λ known. (there.0.reads.known (h.known known)).known;
        are_parts = λ known. are_more rules.info start (unread source before) (unread source now) (unread source next) h.parts part (h.are_parts known) (part_there next part there known);
        at = next_at next part there;
        end_is = ends ∙ same_end 0 (position_after start h.parts) part ∙ sym (position_more start h.parts part);
        info = info ∙ h.info;
        gives = more_given;
        puts = puts_both h.puts puts.puts.puts;
        notes = notes_both h.notes puts.puts.notes;
        hashes = given_both h.hashes puts.puts.hashes;
        room = λ n has. room n (h.room n has);
        memory = memory ∙ h.memory;
      }

    pub all_of_stream : AreOfStream rules.info (waiting_frames rescue.waiting)
    all_of_stream = of_stream_after rules.info h.done (waiting_frames rescue.waiting) (are_of_stream rules.info h.parts (h.done ++ waiting_frames rescue.waiting) h.are_frames)

    -- what stops: a read
    pub read_stops : (next : Parts R) (z : WavWriter W) (cause : Cause) → PartStops source now next cause → MemoryIsCounted (let r : Result (Option Part) Cause = Err cause in r) (parts_memory now) (parts_memory next) → (e : Error) → e ≡ Claxon cause → StopsRescue source contents rules start before next old z e
    read_stops next z cause stops counts e is = record {
      parts = h.parts;
      from = now;
      more = h.more;
      reads = h.reads;
      are_parts = h.are_parts;
      stops = inl (record { cause = cause; is = is; stops = stops; counts = subst (λ m. MemoryIsCounted (let r : Result (Option Part) Cause = Err cause in r) m (parts_memory next)) h.memory counts });
    }

    -- a frame
    frames_stop : (next : Parts R) (z : WavWriter W) (e : Error) (stops : StopsInFrames rules rescue.due new z (waiting_frames rescue.waiting) e) → (look_ahead ≤ length stops.ahead) ⊎ NoneLeft source before now → StopsInFrame source contents rules start before next old z e now h.parts
    frames_stop next z e stops decided =
        let same : waiting_frames rescue.waiting ++ [] ≡ stops.first ++ (stops.there ∷ stops.ahead) = append-nil (waiting_frames rescue.waiting) ∙ stops.are in
        let one = subst (λ (l : List FrameThere). FramesGive rules (first_due start) h.done l h.blocks h.lost rescue.due) same (h.gives []) in
        record {
          frames = h.done ++ waiting_frames rescue.waiting;
          are_frames = h.are_frames;
          stops = record {
            first = h.done ++ stops.first;
            there = stops.there;
            ahead = stops.ahead;
            are = ap (λ (l : List FrameThere). h.done ++ l) stops.are ∙ sym (append_assoc h.done stops.first (stops.there ∷ stops.ahead));
            given = h.blocks ++ stops.given;
            lost = h.lost ++ stops.lost;
            then_due = stops.then_due;
            gives = frames_both rules (first_due start) rescue.due stops.then_due h.done stops.first (stops.there ∷ stops.ahead) h.blocks stops.given h.lost stops.lost one stops.gives;
            blocks = stops.blocks;
            ranges = stops.ranges;
            next = stops.next;
            gives_it = stops.gives_it;
            stops = subst (λ (l : List Block). StopsWriting l e old z) (sym (append_assoc h.blocks stops.given stops.blocks)) (stops_after h.blocks (stops.given ++ stops.blocks) old new z e h.puts h.room stops.stops);
          };
          decided = decided;
        }

    -- the first one that waited
    pub part_stops : (next : Parts R) (z : WavWriter W) (e : Error) → StopsAtFirst rules rescue.due new z (waiting_frames rescue.waiting) e → StopsRescue source contents rules start before next old z e
    part_stops next z e (there, ahead, are, long, stop) =
        let few : length ahead ≤ look_ahead = omega (arith, long) in
        let first : StopsInFrames rules rescue.due new z (waiting_frames rescue.waiting) e = record {
          first = [];
          there = there;
          ahead = ahead;
          are = are;
          given = [];
          lost = [];
          then_due = rescue.due;
          gives = (record { none = refl; same = refl }, refl);
          blocks = stop.0;
          ranges = stop.1;
          next = stop.2;
          gives_it = subst (λ (l : List FrameThere). GivesFrame rules rescue.due there l stop.0 stop.1 stop.2) (sym (take_all look_ahead ahead few)) stop.3;
          stops = stop.4;
        } in
        record {
          parts = h.parts;
          from = now;
          more = h.more;
          reads = h.reads;
          are_parts = h.are_parts;
          stops = inr (inl (frames_stop next z e first (inl (omega (arith, long)))));
        }

    no_more : (next : Parts R) → PartIsThere source now next (Ok None) → SourceIsKnown source before → unread source now ≡ []
    no_more next there known = (there.0.is (h.known known)).0

    -- one of the last ones
    pub waiting_stops : (next : Parts R) (z : WavWriter W) (e : Error) → PartIsThere source now next (Ok None) → StopsInFrames rules rescue.due new z (waiting_frames rescue.waiting) e → StopsRescue source contents rules start before next old z e
    waiting_stops next z e is stops = record {
      parts = h.parts;
      from = now;
      more = h.more;
      reads = h.reads;
      are_parts = h.are_parts;
      stops = inr (inl (frames_stop next z e stops (inr (no_more next is))));
    }

    -- too many parts
    pub count_stops : (e : Error) → 2 ^ 64 - 1 ≤ count → StopsRescue source contents rules start before now old new e
    count_stops e many = record {
      parts = h.parts;
      from = now;
      more = h.more;
      reads = h.reads;
      are_parts = h.are_parts;
      stops = inr (inr (inr (omega (arith, many, h.long))));
    }

    -- the end, after all that waited were written
    module _ (next : Parts R) (y z : WavWriter W) (last after : Rescue) (is : PartIsThere source now next (Ok None)) (waited : PutsWaiting contents rules rescue last new y) (room : KeepsRoom new y) where
      abbrev all : List FrameThere
      all = h.done ++ waiting_frames rescue.waiting

      all_gives : FramesGive rules (first_due start) all [] (h.blocks ++ waited.all.blocks) (h.lost ++ waited.all.lost) last.due
      all_gives = frames_both rules (first_due start) rescue.due last.due h.done (waiting_frames rescue.waiting) [] h.blocks waited.all.blocks h.lost waited.all.lost (h.gives []) waited.all.gives

      all_puts : PutsSamples contents (h.blocks ++ waited.all.blocks) old y
      all_puts = puts_both h.puts waited.all.puts

      end_stops : (e : Error) → StopsWriting (gap_blocks rules last.due (last_sample rules last.due)) e y z → StopsRescue source contents rules start before next old z e
      end_stops e stop = record {
        parts = h.parts;
        from = now;
        more = h.more;
        reads = h.reads;
        are_parts = h.are_parts;
        stops = inr (inr (inl (record {
          frames = all;
          are_frames = h.are_frames;
          given = h.blocks ++ waited.all.blocks;
          lost = h.lost ++ waited.all.lost;
          due = last.due;
          gives = all_gives;
          none_left = no_more next is;
          stops = stops_after (h.blocks ++ waited.all.blocks) (gap_blocks rules last.due (last_sample rules last.due)) old y z e all_puts (λ n has. room n (h.room n has)) stop;
        })));
      }

      all_parts : PutsGap contents rules last after y z (last_sample rules last.due) end → PutsParts source contents rules start before next old z begun after
      all_parts rest = record {
        more = h.more ++ is.0.more;
        reads = reads_both h.reads is.0.reads;
        parts = h.parts;
        blocks = (h.blocks ++ waited.all.blocks) ++ gap_blocks rules last.due (last_sample rules last.due);
        lost = (h.lost ++ waited.all.lost) ++ gap_ranges last.due (last_sample rules last.due) end;
        are_parts = λ known. subst (λ (m : List ℕ). AreParts rules.info start (unread source before) h.parts m) (no_more next is known) (h.are_parts known);
        rescues = record {
          frames = all;
          are_frames = h.are_frames;
          given = h.blocks ++ waited.all.blocks;
          ranges = h.lost ++ waited.all.lost;
          last = last.due;
          gives = all_gives;
          blocks_are = refl;
          lost_are = ap (λ (n : ℕ). (h.lost ++ waited.all.lost) ++ gap_ranges last.due (last_sample rules last.due) n) h.end_is;
        };
        puts = puts_both all_puts rest.puts;
        notes = notes_both (notes_both h.notes waited.all.notes) rest.notes;
        hashes = given_both (given_both h.hashes waited.all.hashes) rest.hashes;
      }

      pub all_given : (r : Result (Unit {0}) Error) → PutGapIsSound contents rules last after y z (last_sample rules last.due) end r → PutPartsIsSound source contents rules start before next old z r begun after
      all_given (Ok done) rest = all_parts rest
      all_given (Err e) rest = tt

      pub rest_stops : (r : Result (Unit {0}) Error) → PutGapFaultIsSound rules last.due y z (last_sample rules last.due) r → PutPartsFaultIsSound source contents rules start before next old z r
      rest_stops (Ok done) stops = tt
      rest_stops (Err e) stops = end_stops e stops
