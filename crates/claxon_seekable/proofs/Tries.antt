-- What comes next, by tries.
use Rattle.std.proofs.Common.{◌≡◌, ◌⊎◌, inl, inr, ℕ, ◌+◌, ◌-◌, ◌^◌, ◌<◌, ◌≤◌, Bool, true, false, List, ◌++◌, length, drop, Option, None, Some, refl, sym, ap, subst, ◌∙◌, append_assoc, arith}
use Rattle.std.specs.Prelude.{Result, Ok, Err, IfSome, if◌then◌else◌}
use Rattle.std.proofs.lemmas.Bool.{false≢true}
use Rattle.std.proofs.lemmas.List.{length-drop}
use Rattle.claxon.specs.Errors.{Error}
use Rattle.claxon.specs.Errors.TheVariants.{OutOfMemory}
use Rattle.claxon.specs.Frame.{Block, Frame}
use Rattle.claxon.specs.Prefix.{BeginsWith}
use Rattle.claxon.specs.ShownHead.{HasBitDepth}
use Rattle.claxon.specs.StreamInfos.{StreamInfo}
use Rattle.claxon_stream.specs.Event.{EventIs, IsReadOn}
use Rattle.claxon_stream.specs.FrameDecoder.{EventIsSound, FrameIsComplete, FrameIsTimely, IsFromPosition, IsOverBudget, KeepsNotes, decoder_position}
use Rattle.claxon_stream.specs.Held.{StandsIn}
use Rattle.claxon_stream.specs.declared.event.Event.{Event}
use Rattle.claxon_stream.specs.declared.event.Event.TheVariants.{Cut, Decoded, End, Faulty, ReadOn}
use Rattle.claxon_stream.specs.declared.event.NeededBytes.{NeededBytes}
use Rattle.claxon_stream.specs.declared.frames.FrameDecoder.{FrameDecoder}
use Rattle.claxon_stream.proofs.Notes.{known_depth}
use Rattle.claxon_seekable.specs.Source.{EndIsTold}
use Rattle.claxon_seekable.specs.SourceFrames.{IsBlockRefused, NextGives, NextIsTimely, NextSays, NotesAreRight, TryGives, format, window_from}
use Rattle.claxon_seekable.specs.Window.{ForgetsEnd, IsFailure, KeepsCounts, MovesTo, ReadsMore, ReadsOn, has_end, held, place}
use Rattle.claxon_seekable.specs.declared.window.Window.{Window}
use Rattle.claxon_seekable.proofs.Counts.{failure_after}
use Rattle.claxon_seekable.proofs.BytesRead.{begins_on, ends_here, held_here, same_bytes, stands_in, stream_of, then_more}

-- what is not `ReadOn` is an answer
pub is_answer : (event : Event) → ((needed : NeededBytes) → event ≡ ReadOn needed → ⊥) → IsReadOn (Ok event) → ⊥
is_answer (ReadOn needed) other is = other needed refl
is_answer (Decoded frame) other is = is
is_answer (Faulty fault) other is = is
is_answer (Cut p) other is = is
is_answer End other is = is

-- what is said of bytes is said of the same bytes
module _ (known : Option StreamInfo) (at there : ℕ) (bytes same : List ℕ) (d : FrameDecoder) (r : Result Event Error) (at_is : at ≡ there) (bytes_are : bytes ≡ same) where
  pub sound_of : (capacity : ℕ) (is_end ends : Bool) (e : FrameDecoder) → is_end ≡ ends → EventIsSound known capacity at bytes is_end d r e → EventIsSound known capacity there same ends d r e
  sound_of capacity is_end ends e end_is sound =
      subst (λ (b : Bool). EventIsSound known capacity there same b d r e) end_is
      (subst (λ (n : ℕ). EventIsSound known capacity n same is_end d r e) at_is
      (subst (λ (xs : List ℕ). EventIsSound known capacity at xs is_end d r e) bytes_are sound))

  pub complete_of : FrameIsComplete known at bytes d r → FrameIsComplete known there same d r
  complete_of complete =
      subst (λ (n : ℕ). FrameIsComplete known n same d r) at_is
      (subst (λ (xs : List ℕ). FrameIsComplete known at xs d r) bytes_are complete)

module _ (known : Option StreamInfo) {R : Type 0} (remaining : R → Option (List ℕ)) (w : Window R) (d : FrameDecoder) (here : place w ≡ decoder_position d) (right : NotesAreRight known w d) where
  abbrev bytes : List ℕ
  bytes = held w

  abbrev at : ℕ
  at = place w

  -- ---- an answer of the decoder

  module _ (capacity : ℕ) (e : FrameDecoder) where
    ends_as : (r : Result Event Error) → EventIsSound known capacity at bytes (has_end w) d r e → EventIs (format known) (window_from w (decoder_position d)) (has_end w) capacity (decoder_position d) r (decoder_position e)
    ends_as r sound = subst (λ (b : Bool). EventIs (format known) (window_from w (decoder_position d)) b capacity (decoder_position d) r (decoder_position e)) (ends_here at (decoder_position d) bytes (has_end w) here) sound

    pub try_answers : (event : Event) → EventIsSound known capacity at bytes (has_end w) d (Ok event) e → FrameIsComplete known at bytes d (Ok event) → (IsReadOn (Ok event) → ⊥) → TryGives known remaining w (decoder_position d) (Ok (Some event)) w e
    try_answers event sound complete answer = record {
      place_is = here;
      reads_on = same_bytes bytes;
      says = (
        ((refl, refl), answer, (capacity, ends_as (Ok event) sound)),
        λ block begins. elim (complete block begins) [
          | inl p ↦ inl p
          | inr (inl memory) ↦ inr (inl memory)
          | inr (inr more) ↦ absurd (answer more)
        ],
      );
      right = λ none. absurd (some_is_not_none event none);
      end_is_told = λ h. h;
    }
      where
        some_is_not_none : (event : Event) → (let r : Result (Option Event) Error = Ok (Some event) in r) ≡ Ok None → ⊥
        some_is_not_none event e = cc

    pub try_refused : (x : Error) → EventIsSound known capacity at bytes (has_end w) d (Err x) e → TryGives known remaining w (decoder_position d) (Err x) w e
    try_refused x sound =
        let same : x ≡ OutOfMemory = cc in
        record {
          place_is = here;
          reads_on = same_bytes bytes;
          says = (
            (sound.2, inr ((refl, refl), (same, (capacity, sound.1)))),
            λ block begins. inr (inl sound.0),
          );
          right = λ none. absurd (err_is_not_none x none);
          end_is_told = λ h. h;
        }
      where
        err_is_not_none : (x : Error) → (let r : Result (Option Event) Error = Err x in r) ≡ Ok None → ⊥
        err_is_not_none x e = cc

  -- ---- more bytes are read

  module _ (capacity : ℕ) (e : FrameDecoder) (needed : NeededBytes) (sound : EventIsSound known capacity at bytes (has_end w) d (Ok (ReadOn needed)) e) (keeps : KeepsNotes known at bytes (has_end w) d e) (timely : FrameIsTimely known at bytes (has_end w) d (Ok (ReadOn needed)) e) (v : Window R) (on : ReadsOn (held w) (held v)) (stays : place v ≡ place w)
      (told : EndIsTold remaining w.source → EndIsTold remaining v.source) where
    went_on : has_end w ≡ false
    went_on = sym (ends_here at (decoder_position d) bytes (has_end w) here) ∙ sound.2

    notes : NotesAreRight known v e
    notes stream stands =
        let all : StandsIn stream at bytes (has_end w) = record {
          after = on.more ++ stands.after;
          are =
              ap (λ (n : ℕ). drop n stream) (sym stays) ∙ stands.are ∙ ap (λ (l : List ℕ). l ++ stands.after) on.is
              ∙ append_assoc bytes on.more stands.after;
          last = λ is. absurd (false≢true (sym went_on ∙ is));
        } in
        keeps stream all (right stream all)

    none_held : (block : Block) → BeginsWith (Frame (format known) block) (window_from w (decoder_position d)) → IsOverBudget e
    none_held block begins =
        let stream = stream_of at bytes in
        let stands = stands_in at bytes (has_end w) in
        elim (timely stream stands (right stream stands) tt) [ inl none ↦ absurd (none block begins.0 begins.1 begins.2 begins.3) | inr over ↦ over ]

    pub try_again : KeepsCounts w v → ReadsMore needed.count v → TryGives known remaining w (decoder_position d) (Ok None) v e
    try_again counts more = record {
      place_is = stays ∙ here;
      reads_on = on;
      says = record {
        went_on = went_on;
        position_is = sound.3;
        counts = counts;
        more = elim more [ inl full ↦ inl (omega (arith, full, sound.1, ap length (held_here at (decoder_position d) bytes here))) | inr end ↦ inr end ];
      };
      right = λ none. notes;
      end_is_told = told;
    }

    pub try_fails : (x : Error) → IsFailure w x v → TryGives known remaining w (decoder_position d) (Err x) v e
    try_fails x failed = record {
      place_is = stays ∙ here;
      reads_on = on;
      says = ((sound.3, inl failed), λ block begins. inr (inr (none_held block begins)));
      right = λ none. absurd (err_is_not_none x none);
      end_is_told = told;
    }
      where
        err_is_not_none : (x : Error) → (let r : Result (Option Event) Error = Err x in r) ≡ Ok None → ⊥
        err_is_not_none x e = cc

-- ---- tries, one after another

-- the bytes that were held from the position on, and more; no call failed
pub record IsTrying (known : Option StreamInfo) {R : Type 0} (remaining : R → Option (List ℕ)) (old : Window R) (position : ℕ) (w : Window R) (d : FrameDecoder) : Type 0 where
  pub place_is : place w ≡ position
  pub position_is : decoder_position d ≡ position
  pub reads_on : ReadsOn (window_from old position) (held w)
  pub counts : KeepsCounts old w
  pub right : NotesAreRight known w d
  pub end_is_told : EndIsTold remaining w.source

-- fewer than 2^64 bytes are held
fits_in : {R : Type 0} (w : Window R) → length (held w) < 2 ^ 64
fits_in w = omega (arith, w.fits, length-drop w.taken w.bytes.items)

-- how far the bytes are from the last that can be held
pub left_to_try : {R : Type 0} → Window R → ℕ
left_to_try w = if has_end w then 0 else 2 ^ 64 - length (held w)

module _ (known : Option StreamInfo) {R : Type 0} (remaining : R → Option (List ℕ)) (old : Window R) (position : ℕ) where
  -- before the first one
  pub starts : IfSome known (λ info. HasBitDepth info) → (moved w : Window R) (before d : FrameDecoder) → MovesTo position old moved → ForgetsEnd moved w → IsFromPosition before position d → IsTrying known remaining old position w d
  starts depth moved w before d m f from = record {
    place_is = f.keeps.1 ∙ m.place_is;
    position_is = from.position;
    reads_on = subst (ReadsOn (window_from old position)) (sym (f.keeps.0 ∙ m.held_is)) (same_bytes (window_from old position));
    counts = (f.counts.0 ∙ m.same.1.0, f.counts.1 ∙ m.same.1.1);
    right = λ stream stands. from.starts (format known) (known_depth known depth) (drop (decoder_position d) stream);
    end_is_told = λ p e. absurd (none_is_not_some p (sym (ap (λ s. s.ended_at) f.source_is) ∙ e));
  }
    where
      none_is_not_some : (p : ℕ) → (let o : Option ℕ = None in o) ≡ Some p → ⊥
      none_is_not_some p e = cc

  module _ (w : Window R) (d : FrameDecoder) (t : IsTrying known remaining old position w d) (v : Window R) (e : FrameDecoder) where
    -- after one that asked for more bytes
    pub goes_on : TryGives known remaining w (decoder_position d) (Ok None) v e → IsTrying known remaining old position v e
    goes_on g = record {
      place_is = g.place_is ∙ t.position_is;
      position_is = g.says.position_is ∙ t.position_is;
      reads_on = then_more t.reads_on g.reads_on;
      counts = (g.says.counts.0 ∙ t.counts.0, g.says.counts.1 ∙ t.counts.1);
      right = g.right refl;
      end_is_told = g.end_is_told t.end_is_told;
    }

    less_by : (a b : Bool) → has_end w ≡ a → has_end v ≡ b → a ≡ false → (length (held w) + 1 ≤ length (held v)) ⊎ (b ≡ true)
        → (if b then 0 else 2 ^ 64 - length (held v)) < (if a then 0 else 2 ^ 64 - length (held w))
    less_by true b p q none more = absurd (false≢true (sym none))
    less_by false true p q none more = omega (arith, fits_in w)
    less_by false false p q none (inl le) = omega (arith, fits_in v, le)
    less_by false false p q none (inr end) = absurd (false≢true end)

    -- more bytes are held, or no more can be
    pub is_nearer : TryGives known remaining w (decoder_position d) (Ok None) v e → left_to_try v < left_to_try w
    unfolding left_to_try
    is_nearer g = less_by (has_end w) (has_end v) refl refl g.says.went_on g.says.more

    from_here : window_from v position ≡ held v → ReadsOn (window_from old position) (held v) → ReadsOn (window_from old position) (window_from v position)
    from_here same on = subst (ReadsOn (window_from old position)) (sym same) on

    timely_from : (r : Result Event Error) → NextIsTimely known w (decoder_position d) r e → NextIsTimely known old position r e
    timely_from r h block begins =
        h block (subst (BeginsWith (Frame (format known) block)) (sym (held_here (place w) (decoder_position d) (held w) (t.place_is ∙ sym t.position_is))) (begins_on t.reads_on begins))

    says_from : (r : Result Event Error) → NextSays known w (decoder_position d) r v e → NextSays known old position r v e
    says_from (Ok event) (counts, answer, (capacity, is)) = (
      (counts.0 ∙ t.counts.0, counts.1 ∙ t.counts.1),
      answer,
      (capacity, subst (λ (p : ℕ). EventIs (format known) (window_from v p) (has_end v) capacity p (Ok event) (decoder_position e)) t.position_is is),
    )
    says_from (Err x) (stays, inl failed) = (stays ∙ t.position_is, inl (failure_after old w v t.counts x failed))
    says_from (Err x) (stays, inr (counts, refused)) = (
      stays ∙ t.position_is,
      inr ((counts.0 ∙ t.counts.0, counts.1 ∙ t.counts.1), subst (λ (p : ℕ). IsBlockRefused known (window_from v p) x) t.position_is refused),
    )

    gives_from : (r : Result Event Error) → place v ≡ decoder_position d → ReadsOn (held w) (held v) → (EndIsTold remaining w.source → EndIsTold remaining v.source) → NextSays known w (decoder_position d) r v e → NextIsTimely known w (decoder_position d) r e
        → NextGives known old position remaining r v e
    gives_from r there on told says timely = record {
      place_is = there ∙ t.position_is;
      reads_on = from_here (held_here (place v) position (held v) (there ∙ t.position_is)) (then_more t.reads_on on);
      says = says_from r says;
      is_timely = timely_from r timely;
      end_is_told = told t.end_is_told;
    }

    -- after the last one
    pub answers : (event : Event) → TryGives known remaining w (decoder_position d) (Ok (Some event)) v e → NextGives known old position remaining (Ok event) v e
    answers event g = gives_from (Ok event) g.place_is g.reads_on g.end_is_told g.says.0 g.says.1

    pub fails : (x : Error) → TryGives known remaining w (decoder_position d) (Err x) v e → NextGives known old position remaining (Err x) v e
    fails x g = gives_from (Err x) g.place_is g.reads_on g.end_is_told g.says.0 g.says.1
