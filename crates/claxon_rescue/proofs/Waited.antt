-- Frames that waited, and what they give.
use Rattle.std.proofs.Common.{◌≡◌, inl, inr, ℕ, ◌+◌, ◌≤◌, List, [], ◌∷◌, ◌++◌, length, take, Option, refl, sym, ap, subst, ◌∙◌, append_assoc, append-nil, arith, length-append}
use Rattle.std.specs.Prelude.{Result, Ok, Err}
use Rattle.std.proofs.lemmas.List.{take-append-le, take_all}
use Rattle.std.proofs.lemmas.List.Elements.{All-cons, All-head, All-nil, All-tail}
use Rattle.claxon.specs.Frame.{Block}
use Rattle.claxon.specs.StreamInfos.{StreamInfo}
use Rattle.claxon_recovery.specs.declared.part.FrameThere.{FrameThere}
use Rattle.claxon_recovery.specs.declared.part.Part.{Part}
use Rattle.claxon_recovery.specs.declared.part.Part.TheVariants.{Damage as DamagePart, Frame as FramePart}
use Rattle.claxon_wav.specs.Writer.{KeepsRoom}
use Rattle.claxon_rescue.specs.PutParts.{AreDecided, MakeRoomIsSound, MakesRoom, PutsFrames, PutsWaiting, StopsInFrames}
use Rattle.claxon_rescue.specs.PutSteps.{HashesGiven, NotesRanges, PutFrameIsSound, PutsFrame, StopsAtFrame}
use Rattle.claxon_rescue.specs.Rescue.{AreOfStream, FrameGives, GivesFrame, IsOfStream}
use Rattle.claxon_rescue.specs.RescuedStream.{AreFrames, FramesGive}
use Rattle.claxon_rescue.specs.LookAhead.{look_ahead}
use Rattle.claxon_rescue.specs.Waiting.{waiting_frames}
use Rattle.claxon_wav.specs.declared.error.Error.{Error}
use Rattle.claxon_rescue.specs.declared.due.Due.{Due}
use Rattle.claxon_rescue.specs.declared.due.Rules.{Rules}
use Rattle.claxon_rescue.specs.declared.losses.LostRange.{LostRange}
use Rattle.claxon_rescue.specs.declared.parts.Rescue.{Rescue}
use Rattle.claxon_wav.specs.declared.writer.WavWriter.{WavWriter}
use Rattle.claxon_wav.proofs.Converting.{puts_none}
use Rattle.claxon_rescue.proofs.Rescuing.{given_both, given_none, notes_both, notes_none, puts_both, stops_after}

-- ---- the frames of a stream

pub frames_more : (info : StreamInfo) (parts : List Part) (part : Part) (frames adds : List FrameThere) → AreFrames info parts frames → AreFrames info (part ∷ []) adds → AreFrames info (parts ++ part ∷ []) (frames ++ adds)
frames_more info [] part frames adds are more = subst (λ (l : List FrameThere). AreFrames info (part ∷ []) (l ++ adds)) (sym are) more
frames_more info (DamagePart damage ∷ parts) part frames adds are more = frames_more info parts part frames adds are more
frames_more info (FramePart there ∷ parts) part frames adds are more = elim are [
  | inl h ↦ inl (h.0, (h.1.0 ++ adds, frames_more info parts part h.1.0 adds h.1.1 more, ap (λ (l : List FrameThere). l ++ adds) h.1.2))
  | inr h ↦ inr (h.0, frames_more info parts part frames adds h.1 more)
]

pub are_of_stream : (info : StreamInfo) (parts : List Part) (frames : List FrameThere) → AreFrames info parts frames → AreOfStream info frames
are_of_stream info [] frames are = subst (AreOfStream info) (sym are) (All-nil (λ (there : FrameThere). IsOfStream info there.frame))
are_of_stream info (DamagePart damage ∷ parts) frames are = are_of_stream info parts frames are
are_of_stream info (FramePart there ∷ parts) frames are = elim are [
  | inl h ↦ subst (AreOfStream info) (sym h.1.2) (All-cons (λ (t : FrameThere). IsOfStream info t.frame) there h.1.0 h.0 (are_of_stream info parts h.1.0 h.1.1))
  | inr h ↦ are_of_stream info parts frames h.1
]

pub of_stream_after : (info : StreamInfo) (first rest : List FrameThere) → AreOfStream info (first ++ rest) → AreOfStream info rest
of_stream_after info [] rest are = are
of_stream_after info (there ∷ first) rest are = of_stream_after info first rest (All-tail (λ (t : FrameThere). IsOfStream info t.frame) there (first ++ rest) are)

pub first_of_stream : (info : StreamInfo) (there : FrameThere) (rest : List FrameThere) → AreOfStream info (there ∷ rest) → IsOfStream info there.frame
first_of_stream info there rest are = All-head (λ (t : FrameThere). IsOfStream info t.frame) there rest are

-- ---- what they give

module _ (rules : Rules) where
  -- more frames come after those that decide
  beyond : (due last : Due) (frames later more : List FrameThere) (blocks : List Block) (lost : List LostRange) → look_ahead ≤ length later → FramesGive rules due frames later blocks lost last → FramesGive rules due frames (later ++ more) blocks lost last
  beyond due last [] later more blocks lost long gives = gives
  beyond due last (there ∷ frames) later more blocks lost long gives =
      let k = gives.4 in
      let enough : look_ahead ≤ length (frames ++ later) = omega (arith, long, length-append frames later) in
      let same : take look_ahead (frames ++ later) ≡ take look_ahead (frames ++ (later ++ more)) = sym (take-append-le look_ahead (frames ++ later) more enough) ∙ ap (take look_ahead) (append_assoc frames later more) in
      (gives.0, gives.1, gives.2, subst (λ (l : List FrameThere). FrameGives rules due there l gives.0 gives.1 gives.2) same gives.3, (k.0, k.1, beyond gives.2 last frames later more k.0 k.1 long k.2, k.3, k.4))

  pub decided_beyond : (due last : Due) (frames later more : List FrameThere) (blocks : List Block) (lost : List LostRange) → AreDecided frames later → FramesGive rules due frames later blocks lost last → FramesGive rules due frames (later ++ more) blocks lost last
  decided_beyond due last frames later more blocks lost decided gives = elim decided [
    | inl none ↦ subst (λ (l : List FrameThere). FramesGive rules due l (later ++ more) blocks lost last) (sym none) (subst (λ (l : List FrameThere). FramesGive rules due l later blocks lost last) none gives)
    | inr long ↦ beyond due last frames later more blocks lost long gives
  ]

  -- some frames, and then others
  pub frames_both : (due next last : Due) (xs ys later : List FrameThere) (blocks bs : List Block) (lost ls : List LostRange) → FramesGive rules due xs (ys ++ later) blocks lost next → FramesGive rules next ys later bs ls last → FramesGive rules due (xs ++ ys) later (blocks ++ bs) (lost ++ ls) last
  frames_both due next last [] ys later blocks bs lost ls none gives =
      let one = subst (λ (d : Due). FramesGive rules d ys later bs ls last) none.0.same gives in
      let two = subst (λ (l : List Block). FramesGive rules due ys later (l ++ bs) ls last) (sym none.0.none) one in
      subst (λ (l : List LostRange). FramesGive rules due ys later (blocks ++ bs) (l ++ ls) last) (sym none.1) two
  frames_both due next last (x ∷ xs) ys later blocks bs lost ls all gives =
      let k = all.4 in (
        all.0,
        all.1,
        all.2,
        subst (λ (l : List FrameThere). FrameGives rules due x l all.0 all.1 all.2) (ap (take look_ahead) (sym (append_assoc xs ys later))) all.3,
        (
          k.0 ++ bs,
          k.1 ++ ls,
          frames_both all.2 next last xs ys later k.0 bs k.1 ls k.2 gives,
          ap (λ (l : List Block). l ++ bs) k.3 ∙ append_assoc all.0 k.0 bs,
          ap (λ (l : List LostRange). l ++ ls) k.4 ∙ append_assoc all.1 k.1 ls,
        ),
      )

  -- one frame
  pub one_frame : (due next : Due) (there : FrameThere) (ahead : List FrameThere) (blocks : List Block) (lost : List LostRange) → length ahead ≤ look_ahead → FrameGives rules due there ahead blocks lost next → FramesGive rules due (there ∷ []) ahead blocks lost next
  one_frame due next there ahead blocks lost few gives = (
    blocks,
    lost,
    next,
    subst (λ (l : List FrameThere). FrameGives rules due there l blocks lost next) (sym (take_all look_ahead ahead few)) gives,
    ([], [], (record { none = refl; same = refl }, refl), sym (append-nil blocks), sym (append-nil lost)),
  )

-- ---- what is written of them

-- the first ones were written so far
pub record Flushed {W : Type 0} (contents : W → Option (List ℕ)) (rules : Rules) (old now : Rescue) (before after : WavWriter W) : Type 0 where
  pub first : List FrameThere
  pub were : waiting_frames old.waiting ≡ first ++ waiting_frames now.waiting
  pub puts : PutsFrames contents rules old now before after first (waiting_frames now.waiting)
  pub room : KeepsRoom before after

module _ {W : Type 0} {contents : W → Option (List ℕ)} (rules : Rules) where
  pub puts_no_frames : (rescue : Rescue) (file : WavWriter W) (later : List FrameThere) → PutsFrames contents rules rescue rescue file file [] later
  puts_no_frames rescue file later = record { blocks = []; lost = []; gives = (record { none = refl; same = refl }, refl); puts = puts_none file; notes = notes_none rescue.losses; hashes = given_none rescue.md5 }

  puts_one_frame : (old new : Rescue) (before after : WavWriter W) (there : FrameThere) → length (waiting_frames old.waiting) ≤ look_ahead → PutsFrame contents rules old new before after there → PutsFrames contents rules old new before after (there ∷ []) (waiting_frames old.waiting)
  puts_one_frame old new before after there few h = record { blocks = h.blocks; lost = h.lost; gives = one_frame rules old.due new.due there (waiting_frames old.waiting) h.blocks h.lost few h.gives; puts = h.puts; notes = h.notes; hashes = h.hashes }

  -- there is room
  pub no_room_made : (rescue : Rescue) (file : WavWriter W) → length (waiting_frames rescue.waiting) ≤ look_ahead → MakesRoom contents rules rescue rescue file file
  no_room_made rescue file has_room = record { first = []; were = refl; decided = inl refl; puts = puts_no_frames rescue file (waiting_frames rescue.waiting); has_room = has_room }

  -- the first one made room
  pub room_made : (old mid new : Rescue) (before after : WavWriter W) (there : FrameThere) → mid.due ≡ old.due → mid.losses ≡ old.losses → mid.md5 ≡ old.md5 → waiting_frames old.waiting ≡ there ∷ waiting_frames mid.waiting → length (waiting_frames mid.waiting) ≡ look_ahead → PutsFrame contents rules mid new before after there → MakesRoom contents rules old new before after
  room_made old mid new before after there due losses md5 were long h =
      let same = sym h.same_waiting in
      let count = ap length same in
      record {
        first = there ∷ [];
        were = were ∙ ap (λ (l : List FrameThere). there ∷ l) same;
        decided = inr (omega (arith, long, count));
        puts = record {
          blocks = h.blocks;
          lost = h.lost;
          gives = subst (λ (l : List FrameThere). FramesGive rules old.due (there ∷ []) l h.blocks h.lost new.due) same (subst (λ (d : Due). FramesGive rules d (there ∷ []) (waiting_frames mid.waiting) h.blocks h.lost new.due) due (one_frame rules mid.due new.due there (waiting_frames mid.waiting) h.blocks h.lost (omega (arith, long)) h.gives));
          puts = h.puts;
          notes = subst (λ l. NotesRanges h.lost l new.losses) losses h.notes;
          hashes = subst (λ m. HashesGiven rules.info.bits_per_sample h.lost h.blocks m new.md5) md5 h.hashes;
        };
        has_room = omega (arith, long, count);
      }

  pub none_flushed : (rescue : Rescue) (file : WavWriter W) → Flushed contents rules rescue rescue file file
  none_flushed rescue file = record { first = []; were = refl; puts = puts_no_frames rescue file (waiting_frames rescue.waiting); room = λ n has. has }

  pub one_flushed : (old now mid new : Rescue) (before between after : WavWriter W) (there : FrameThere) → Flushed contents rules old now before between → mid.due ≡ now.due → mid.losses ≡ now.losses → mid.md5 ≡ now.md5 → waiting_frames now.waiting ≡ there ∷ waiting_frames mid.waiting → length (waiting_frames mid.waiting) ≤ look_ahead → PutsFrame contents rules mid new between after there → KeepsRoom between after
      → Flushed contents rules old new before after
  one_flushed old now mid new before between after there so_far due losses md5 were few h keeps =
      let same = sym h.same_waiting in
      let k = so_far.puts in
      let all = waiting_frames mid.waiting in
      let given : FramesGive rules old.due so_far.first ((there ∷ []) ++ all) k.blocks k.lost now.due = subst (λ (l : List FrameThere). FramesGive rules old.due so_far.first l k.blocks k.lost now.due) were k.gives in
      let one : FramesGive rules now.due (there ∷ []) all h.blocks h.lost new.due = subst (λ (d : Due). FramesGive rules d (there ∷ []) all h.blocks h.lost new.due) due (one_frame rules mid.due new.due there all h.blocks h.lost few h.gives) in
      let both = frames_both rules old.due now.due new.due so_far.first (there ∷ []) all k.blocks h.blocks k.lost h.lost given one in
      record {
        first = so_far.first ++ there ∷ [];
        were = so_far.were ∙ ap (λ (l : List FrameThere). so_far.first ++ l) (were ∙ ap (λ (l : List FrameThere). there ∷ l) same) ∙ sym (append_assoc so_far.first (there ∷ []) (waiting_frames new.waiting));
        puts = record {
          blocks = k.blocks ++ h.blocks;
          lost = k.lost ++ h.lost;
          gives = subst (λ (l : List FrameThere). FramesGive rules old.due (so_far.first ++ there ∷ []) l (k.blocks ++ h.blocks) (k.lost ++ h.lost) new.due) same both;
          puts = puts_both k.puts h.puts;
          notes = notes_both k.notes (subst (λ l. NotesRanges h.lost l new.losses) losses h.notes);
          hashes = given_both k.hashes (subst (λ m. HashesGiven rules.info.bits_per_sample h.lost h.blocks m new.md5) md5 h.hashes);
        };
        room = λ n has. keeps n (so_far.room n has);
      }

  pub all_flushed : (old now new : Rescue) (before after : WavWriter W) → Flushed contents rules old now before after → waiting_frames now.waiting ≡ [] → new.due ≡ now.due → new.losses ≡ now.losses → new.md5 ≡ now.md5 → waiting_frames new.waiting ≡ [] → PutsWaiting contents rules old new before after
  all_flushed old now new before after h none due losses md5 left =
      let k = h.puts in
      let are : h.first ≡ waiting_frames old.waiting = sym (h.were ∙ ap (λ (l : List FrameThere). h.first ++ l) none ∙ append-nil h.first) in
      let one = subst (λ (l : List FrameThere). FramesGive rules old.due h.first l k.blocks k.lost now.due) none k.gives in
      let two = subst (λ (l : List FrameThere). FramesGive rules old.due l [] k.blocks k.lost now.due) are one in
      record {
        all = record {
          blocks = k.blocks;
          lost = k.lost;
          gives = subst (λ (d : Due). FramesGive rules old.due (waiting_frames old.waiting) [] k.blocks k.lost d) (sym due) two;
          puts = k.puts;
          notes = subst (λ l. NotesRanges k.lost old.losses l) (sym losses) k.notes;
          hashes = subst (λ m. HashesGiven rules.info.bits_per_sample k.lost k.blocks old.md5 m) (sym md5) k.hashes;
        };
        none_left = left;
      }

  -- or not all of one
  pub flush_stops : (old now : Rescue) (ahead : List FrameThere) (before between after : WavWriter W) (there : FrameThere) (e : Error) → Flushed contents rules old now before between → waiting_frames now.waiting ≡ there ∷ ahead → length ahead ≤ look_ahead → StopsAtFrame rules now.due between after there ahead e → StopsInFrames rules old.due before after (waiting_frames old.waiting) e
  flush_stops old now ahead before between after there e h were few stops =
      let k = h.puts in
      record {
        first = h.first;
        there = there;
        ahead = ahead;
        are = h.were ∙ ap (λ (l : List FrameThere). h.first ++ l) were;
        given = k.blocks;
        lost = k.lost;
        then_due = now.due;
        gives = subst (λ (l : List FrameThere). FramesGive rules old.due h.first l k.blocks k.lost now.due) were k.gives;
        blocks = stops.0;
        ranges = stops.1;
        next = stops.2;
        gives_it = subst (λ (l : List FrameThere). GivesFrame rules now.due there l stops.0 stops.1 stops.2) (sym (take_all look_ahead ahead few)) stops.3;
        stops = stops_after k.blocks stops.0 before between after e k.puts h.room stops.4;
      }

pub room_answer : {W : Type 0} (contents : W → Option (List ℕ)) (rules : Rules) (old mid new : Rescue) (before after : WavWriter W) (there : FrameThere) (r : Result (Unit {0}) Error) → mid.due ≡ old.due → mid.losses ≡ old.losses → mid.md5 ≡ old.md5 → waiting_frames old.waiting ≡ there ∷ waiting_frames mid.waiting → length (waiting_frames mid.waiting) ≡ look_ahead → PutFrameIsSound contents rules mid new before after there r → MakeRoomIsSound contents rules old new before after r
room_answer contents rules old mid new before after there (Ok done) due losses md5 were long h = room_made rules old mid new before after there due losses md5 were long h
room_answer contents rules old mid new before after there (Err e) due losses md5 were long h = tt
