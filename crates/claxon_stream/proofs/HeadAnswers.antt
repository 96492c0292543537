-- The answers of a decoder of heads add up to what reading the head gives, and so to what `read_head` returns.
use Rattle.std.proofs.Common.{◌≡◌, ◌⊎◌, inl, inr, ℕ, ◌+◌, true, List, [], ◌∷◌, drop, Option, None, refl, sym, ap, subst, ◌∙◌}
use Rattle.std.specs.Global.{Global}
use Rattle.std.specs.Prelude.{Ok, Err, IsErrAnd, IsOkAnd}
use Rattle.std.proofs.lemmas.List.{drop-drop}
use Rattle.claxon.specs.Comments.{Comment}
use Rattle.claxon.specs.Error.{IsFault, IsIo}
use Rattle.claxon.specs.Errors.{Error}
use Rattle.claxon.specs.Errors.TheVariants.{FormatError, IoError, OutOfMemory, Unsupported}
use Rattle.claxon.specs.Fault.{Fault}
use Rattle.claxon.specs.Gives.{Consumes, GivesOrOutOfMemory, IsFaultOf, ReadFailedIn, ReadFailedOrRemaining}
use Rattle.claxon.specs.Heads.{Head, Options, found_with}
use Rattle.claxon.specs.MetadataBlock.{content_view}
use Rattle.claxon.specs.Promises.{IsOutOfMemory, Remains}
use Rattle.claxon.specs.read.Heads.{head_at}
use Rattle.claxon.specs.read.Reading.{Reading, Done, Faulty, Incomplete}
use Rattle.claxon.specs.ReadHead.{HeadAnswer, head_view, options_view}
use Rattle.claxon.specs.State.{State}
use Rattle.claxon.specs.Streaminfo.{Streaminfo}
use Rattle.claxon.specs.declared.head.FlacReaderOptions.{FlacReaderOptions}
use Rattle.claxon_stream.specs.HeadDecoder.{HeadEventIs, IsHeadAnswer, shown_header}
use Rattle.claxon_stream.specs.HeadLaws.{AreHeadAnswers, HeadResult, IsKeptHead, SaysWhatIsRead, SaysWhatIsReturned, info_with, kept_comment, kept_info}
use Rattle.claxon_stream.specs.HeadPart.{BlockPart, HeadPart, HeaderPart, MarkerPart, part_at, passed_bytes}
use Rattle.claxon_stream.specs.HeadState.{needs, new_head, state_after}
use Rattle.claxon_stream.specs.declared.head.HeadDecoder.{HeadDecoder}
use Rattle.claxon_stream.specs.declared.head.event.HeadEvent.TheVariants.{Block, Cut, Faulty as FaultyHead, Header, Marker, ReadOn, Whole}
use Rattle.claxon_stream.proofs.HeadRest.{StateFits, block_step, cut_step, end_step, faulty_step, head_with, header_step, marker_step, rest_at}
use Rattle.claxon_stream.proofs.HeadSizes.{takes_part}

abbrev RestIs : HeadDecoder → Option Streaminfo → Option Comment → List ℕ → Reading ℕ Head
RestIs s info found stream = rest_at s.next s.rules info found (drop s.position stream)

abbrev Fits : HeadDecoder → Option Streaminfo → Option Comment → Type 0
Fits s info found = StateFits s.next s.rules info found

-- the rest stays the same, and the options
record Continues (stream : List ℕ) (s next : HeadDecoder) (info : Option Streaminfo) (found : Option Comment) (more : Option Streaminfo) (others : Option Comment) : Type 0 where
  pub same : RestIs s info found stream ≡ RestIs next more others stream
  pub fits : Fits next more others
  pub options : next.rules.options ≡ s.rules.options

-- what is left after a part
left_after : (stream : List ℕ) (s : HeadDecoder) (x : HeadPart) (rest : List ℕ) → part_at s.next s.rules (drop s.position stream) ≡ Done x rest → rest ≡ drop (s.position + needs s) stream
left_after stream s x rest e = (takes_part s.next s.rules (drop s.position stream) x rest e).1 ∙ drop-drop (needs s) s.position stream

module _ (stream : List ℕ) (s : HeadDecoder) (info : Option Streaminfo) (found : Option Comment) (fits : Fits s info found) where
  here : (x : HeadResult) (next : HeadDecoder) → next ≡ s → Continues stream s next info found info found
  here x next is = subst (λ (z : HeadDecoder). Continues stream s z info found info found) (sym is) (record { same = refl; fits = fits; options = refl })

  after_marker : (rest : List ℕ) (next : HeadDecoder) → part_at s.next s.rules (drop s.position stream) ≡ Done MarkerPart rest → next ≡ state_after s MarkerPart → Continues stream s next info found info found
  after_marker rest next e is =
      let k = marker_step s.next s.rules info found (drop s.position stream) rest e fits in
      let left = left_after stream s MarkerPart rest e in
      let there : RestIs s info found stream ≡ RestIs (state_after s MarkerPart) info found stream = k.0 ∙ ap (rest_at (state_after s MarkerPart).next s.rules info found) left in
      subst (λ (z : HeadDecoder). Continues stream s z info found info found) (sym is) (record { same = there; fits = k.1; options = refl })

  after_header : (h : _) (rest : List ℕ) (next : HeadDecoder) → part_at s.next s.rules (drop s.position stream) ≡ Done (HeaderPart h) rest → next ≡ state_after s (HeaderPart h) → Continues stream s next info found info found
  after_header h rest next e is =
      let k = header_step s.next s.rules info found (drop s.position stream) rest h e fits in
      let left = left_after stream s (HeaderPart h) rest e in
      let passed : drop (passed_bytes h.type h.length) rest ≡ drop (s.position + needs s + passed_bytes h.type h.length) stream = ap (drop (passed_bytes h.type h.length)) left ∙ drop-drop (passed_bytes h.type h.length) (s.position + needs s) stream in
      let there : RestIs s info found stream ≡ RestIs (state_after s (HeaderPart h)) info found stream = k.0 ∙ ap (rest_at (state_after s (HeaderPart h)).next s.rules info found) passed in
      subst (λ (z : HeadDecoder). Continues stream s z info found info found) (sym is) (record { same = there; fits = k.1; options = refl })

  after_block : (c : _) (rest : List ℕ) (next : HeadDecoder) → part_at s.next s.rules (drop s.position stream) ≡ Done (BlockPart c) rest → next ≡ state_after s (BlockPart c) → Continues stream s next info found (info_with info c) (found_with found c)
  after_block c rest next e is =
      let k = block_step s.next s.rules info found (drop s.position stream) rest c e fits in
      let left = left_after stream s (BlockPart c) rest e in
      let new = state_after s (BlockPart c) in
      let there : RestIs s info found stream ≡ RestIs new (info_with info c) (found_with found c) stream = k.0 ∙ ap (rest_at new.next new.rules (info_with info c) (found_with found c)) left in
      subst (λ (z : HeadDecoder). Continues stream s z info found (info_with info c) (found_with found c)) (sym is) (record { same = there; fits = k.1; options = refl })

-- ---- one answer after another

continued : (stream : List ℕ) (s next end : HeadDecoder) (info : Option Streaminfo) (found : Option Comment) (more : Option Streaminfo) (others : Option Comment) (last : Option Streaminfo) (all : Option Comment) → Continues stream s next info found more others → Continues stream next end more others last all → Continues stream s end info found last all
continued stream s next end info found more others last all h k = record { same = h.same ∙ k.same; fits = k.fits; options = k.options ∙ h.options }

all_answers : (stream : List ℕ) (s end : HeadDecoder) (info : Option Streaminfo) (found : Option Comment) (xs : List HeadResult) → Fits s info found → AreHeadAnswers stream s xs end → Continues stream s end info found (kept_info info xs) (kept_comment found xs)
all_answers stream s end info found [] fits h = subst (λ (z : HeadDecoder). Continues stream s z info found info found) h (record { same = refl; fits = fits; options = refl })
all_answers stream s end info found (Ok Marker ∷ others) fits h =
    let e = h.2 in
    let one = after_marker stream s info found fits e.0 h.0 e.1 e.2 in
    continued stream s h.0 end info found info found (kept_info info others) (kept_comment found others) one (all_answers stream h.0 end info found others one.fits h.3)
all_answers stream s end info found (Ok (Header x) ∷ others) fits h =
    let e = h.2.0 in
    let one = after_header stream s info found fits (shown_header x) e.0 h.0 e.1 e.2 in
    continued stream s h.0 end info found info found (kept_info info others) (kept_comment found others) one (all_answers stream h.0 end info found others one.fits h.3)
all_answers stream s end info found (Ok (Block x) ∷ others) fits h =
    let e = h.2 in
    let c = content_view x in
    let one = after_block stream s info found fits c e.0 h.0 e.1 e.2 in
    continued stream s h.0 end info found (info_with info c) (found_with found c) (kept_info (info_with info c) others) (kept_comment (found_with found c) others) one (all_answers stream h.0 end (info_with info c) (found_with found c) others one.fits h.3)
all_answers stream s end info found (Ok (Whole x) ∷ others) fits h =
    let e = h.2.0 in
    let one = here stream s info found fits (Ok (Whole x)) h.0 e.2 in
    continued stream s h.0 end info found info found (kept_info info others) (kept_comment found others) one (all_answers stream h.0 end info found others one.fits h.3)
all_answers stream s end info found (Ok (FaultyHead x) ∷ others) fits h =
    let e = h.2 in
    let one = here stream s info found fits (Ok (FaultyHead x)) h.0 e.2 in
    continued stream s h.0 end info found info found (kept_info info others) (kept_comment found others) one (all_answers stream h.0 end info found others one.fits h.3)
all_answers stream s end info found (Ok (Cut x) ∷ others) fits h =
    let e = h.2 in
    let one = here stream s info found fits (Ok (Cut x)) h.0 e.3 in
    continued stream s h.0 end info found info found (kept_info info others) (kept_comment found others) one (all_answers stream h.0 end info found others one.fits h.3)
all_answers stream s end info found (Ok (ReadOn x) ∷ others) fits h = absurd h.1
all_answers stream s end info found (Err x ∷ others) fits h = absurd h.1

-- ---- the last answer

module _ (o : FlacReaderOptions) (stream : List ℕ) (xs : List HeadResult) (s new : HeadDecoder) (options : s.rules.options ≡ o) (fits : Fits s (kept_info None xs) (kept_comment None xs)) where
  last_says : (x : HeadResult) → IsHeadAnswer x → HeadEventIs s (drop s.position stream) true x new → SaysWhatIsRead (options_view o) stream xs x (RestIs s (kept_info None xs) (kept_comment None xs) stream)
  last_says (Ok Marker) is h = tt
  last_says (Ok (Header x)) is h = tt
  last_says (Ok (Block x)) is h = tt
  last_says (Ok (Whole at)) is h =
      let e = h.0 in
      let k = end_step s.next s.rules (kept_info None xs) (kept_comment None xs) (drop s.position stream) e.0 e.1 fits in
      let head = head_with (options_view o) k.0 (kept_comment None xs) in
      (head, record { info = k.1; comment = refl }, k.2 ∙ ap (λ (z : FlacReaderOptions). Done (head_with (options_view z) k.0 (kept_comment None xs)) (drop s.position stream)) options ∙ ap (λ (n : ℕ). Done head (drop n stream)) (sym h.1))
  last_says (Ok (FaultyHead fault)) is h =
      let e = h.1 in
      let k = faulty_step s.next s.rules (kept_info None xs) (kept_comment None xs) (drop s.position stream) e.0 e.1 e.3 fits in
      (e.0, k.0, e.2, k.1)
  last_says (Ok (Cut at)) is h = cut_step s.next s.rules (kept_info None xs) (kept_comment None xs) (drop s.position stream) h.2
  last_says (Ok (ReadOn x)) is h = absurd is
  last_says (Err x) is h = absurd is

pub answers_are_reading : (o : FlacReaderOptions) (stream : List ℕ) (at : ℕ) (xs : List HeadResult) (x : HeadResult) (s new : HeadDecoder) → AreHeadAnswers stream (new_head at o) xs s → IsHeadAnswer x → HeadEventIs s (drop s.position stream) true x new
    → SaysWhatIsRead (options_view o) stream xs x (head_at (options_view o) (drop at stream))
answers_are_reading o stream at xs x s new h is e =
    let all = all_answers stream (new_head at o) s None None xs (refl, (refl, refl, refl, refl)) h in
    subst (SaysWhatIsRead (options_view o) stream xs x) (sym all.same) (last_says o stream xs s new all.options all.fits x is e)

-- ---- what `read_head` returns

module _ (o : Options) (bytes : List ℕ) (old new : State ℕ) (remains : Remains old bytes) (never : ReadFailedIn old new → ⊥) where
  same_reading : head_at o old.remaining ≡ head_at o bytes
  same_reading = ap (head_at o) remains.are

  -- as the call gave it
  abbrev Gave : HeadAnswer Global → Type 0
  Gave r = GivesOrOutOfMemory head_view r (head_at o) old new

  cut_off : ReadFailedOrRemaining old new (λ s. head_at o s ≡ Incomplete) → head_at o bytes ≡ Incomplete
  cut_off h = elim (h.known remains.known).why [ inl p ↦ sym same_reading ∙ p | inr failed ↦ absurd (never failed) ]

  fault_of : (e : Error) (x : Reading ℕ Head) (m : List ℕ) → IsFaultOf e x m → (f : Fault) × (rest : List ℕ) × IsFault f e × (x ≡ Faulty f rest)
  fault_of e (Faulty f rest) m h = (f, rest, h.0, refl)
  fault_of e (Done y rest) m h = absurd h
  fault_of e Incomplete m h = absurd h

  faulty_off : (e : Error) → Consumes old new (λ s m. IsFaultOf e (head_at o s) m) → (f : Fault) × (rest : List ℕ) × IsFault f e × (head_at o bytes ≡ Faulty f rest)
  faulty_off e h = let k = fault_of e (head_at o old.remaining) new.remaining (h.known remains.known).is in (k.0, k.1, k.2, sym same_reading ∙ k.3)

  returned_head : (r : HeadAnswer Global) → Gave r → (head : Head) (rest : List ℕ) → head_at o bytes ≡ Done head rest → IsOkAnd r (λ shown. head_view shown ≡ head) ⊎ IsOutOfMemory r
  returned_head (Ok shown) g head rest e = inl (let k = sym (sym same_reading ∙ (g.known remains.known).is) ∙ e in cc)
  returned_head (Err OutOfMemory) g head rest e = inr refl
  returned_head (Err (IoError cause)) g head rest e = absurd (let k = sym (cut_off (g.failure refl)) ∙ e in cc)
  returned_head (Err (FormatError text)) g head rest e = absurd (let f = faulty_off (FormatError text) (g.fault refl) in let k = sym f.3 ∙ e in cc)
  returned_head (Err (Unsupported text)) g head rest e = absurd (let f = faulty_off (Unsupported text) (g.fault refl) in let k = sym f.3 ∙ e in cc)

  returned_fault : (r : HeadAnswer Global) → Gave r → (f : Fault) (rest : List ℕ) → head_at o bytes ≡ Faulty f rest → IsErrAnd r (IsFault f) ⊎ IsOutOfMemory r
  returned_fault (Ok shown) g f rest e = absurd (let k = sym (sym same_reading ∙ (g.known remains.known).is) ∙ e in cc)
  returned_fault (Err OutOfMemory) g f rest e = inr refl
  returned_fault (Err (IoError cause)) g f rest e = absurd (let k = sym (cut_off (g.failure refl)) ∙ e in cc)
  returned_fault (Err (FormatError text)) g f rest e = inl (let k = faulty_off (FormatError text) (g.fault refl) in let q = sym k.3 ∙ e in let same : k.0 ≡ f = cc in subst (λ (z : Fault). IsFault z (FormatError text)) same k.2)
  returned_fault (Err (Unsupported text)) g f rest e = inl (let k = faulty_off (Unsupported text) (g.fault refl) in let q = sym k.3 ∙ e in let same : k.0 ≡ f = cc in subst (λ (z : Fault). IsFault z (Unsupported text)) same k.2)

  returned_io : (r : HeadAnswer Global) → Gave r → head_at o bytes ≡ Incomplete → IsErrAnd r IsIo ⊎ IsOutOfMemory r
  returned_io (Ok shown) g e = absurd (let k = sym (sym same_reading ∙ (g.known remains.known).is) ∙ e in cc)
  returned_io (Err OutOfMemory) g e = inr refl
  returned_io (Err (IoError cause)) g e = inl refl
  returned_io (Err (FormatError text)) g e = absurd (let f = faulty_off (FormatError text) (g.fault refl) in let k = sym f.3 ∙ e in cc)
  returned_io (Err (Unsupported text)) g e = absurd (let f = faulty_off (Unsupported text) (g.fault refl) in let k = sym f.3 ∙ e in cc)

  kept_returned : (xs : List HeadResult) (r : HeadAnswer Global) (head : Head) → IsKeptHead o xs head → IsOkAnd r (λ shown. head_view shown ≡ head) → IsOkAnd r (λ shown. IsKeptHead o xs (head_view shown))
  kept_returned xs (Ok shown) head kept is = subst (IsKeptHead o xs) (sym is) kept
  kept_returned xs (Err e) head kept is = absurd is

  pub says_returned : (stream : List ℕ) (xs : List HeadResult) (x : HeadResult) (r : HeadAnswer Global) → Gave r → SaysWhatIsRead o stream xs x (head_at o bytes) → SaysWhatIsReturned o xs x r ⊎ IsOutOfMemory r
  says_returned stream xs (Ok (Whole at)) r g h = elim (returned_head r g h.0 (drop at stream) h.2) [ inl p ↦ inl (kept_returned xs r h.0 h.1 p) | inr m ↦ inr m ]
  says_returned stream xs (Ok (FaultyHead fault)) r g h = elim (returned_fault r g h.0 h.1 h.3) [ inl p ↦ inl (h.0, h.2, p) | inr m ↦ inr m ]
  says_returned stream xs (Ok (Cut at)) r g h = returned_io r g h
  says_returned stream xs (Ok Marker) r g h = inl tt
  says_returned stream xs (Ok (Header x)) r g h = inl tt
  says_returned stream xs (Ok (Block x)) r g h = inl tt
  says_returned stream xs (Ok (ReadOn x)) r g h = inl tt
  says_returned stream xs (Err x) r g h = inl tt
