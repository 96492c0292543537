-- The parts that are found, one after another, and their places.
use Rattle.std.proofs.Common.{◌≡◌, ℕ, Bool, true, false, List, [], ◌∷◌, ◌++◌, refl, sym, ap, subst, ◌∙◌}
use Rattle.std.specs.Prelude.{◌==◌, if◌then◌else◌, map, nat_lt, Option, None, Some, Result, Ok, Err}
use Rattle.claxon.specs.Streaminfo.{Streaminfo}
use Rattle.claxon_blocks.specs.declared.frames.FrameError.{FrameError}
use Rattle.claxon_report.specs.Places.{FoundPart, Scans, begun_scan, damaged, due_after, ended_place, ends_place, fills, filled, first_sample, goes_on_after, greater, judged, last_place, late_damage, list_of, missing_place, not_ended, other_stream, place_until, places_at, places_of, returned, returns, scan_more, scan_part, scan_parts, unnamed, unnamed_damage, with_scanned}
use Rattle.claxon_report.specs.declared.due.Due.{Due}
use Rattle.claxon_report.specs.declared.due.FoundFrame.{FoundFrame}
use Rattle.claxon_report.specs.declared.place.Damage.{Damage}
use Rattle.claxon_report.specs.declared.place.Damage.TheVariants.{Fault as FaultDamage, Repeated}
use Rattle.claxon_report.specs.declared.place.Place.{Place}
use Rattle.claxon_report.specs.declared.scan.Begun.{Begun}
use Rattle.claxon_report.specs.declared.scan.Ended.{Ended}
use Rattle.claxon_report.specs.declared.scan.Scan.{Scan}
use Rattle.claxon_report.specs.declared.scan.Scanned.{Scanned}

-- ---- one part more

pub scan_push : (info : Streaminfo) (scans : Scans) (parts : List FoundPart) (part : FoundPart) → scan_parts info scans (parts ++ part ∷ []) ≡ scan_more info (scan_parts info scans parts) part
scan_push info scans [] part = refl
scan_push info scans (first ∷ parts) part = scan_push info (scan_more info scans first) parts part

-- ---- without the errors of faults

abbrev pub unnamed_option : Option Place → Option Place
unnamed_option None = None
unnamed_option (Some place) = Some (unnamed place)

abbrev pub unnamed_begun : Option Begun → Option Begun
unnamed_begun None = None
unnamed_begun (Some begun) = Some (record { byte = begun.byte; sample = begun.sample; damage = unnamed_damage begun.damage })

abbrev pub unnamed_ended : Option Ended → Option Ended
unnamed_ended None = None
unnamed_ended (Some ended) = Some (record { place = unnamed ended.place; skipped = ended.skipped; early = ended.early })

abbrev pub unnamed_scan : Scan → Scan
unnamed_scan scan = record { due = scan.due; ended = unnamed_ended scan.ended; begun = unnamed_begun scan.begun }

abbrev pub unnamed_what : Result FoundFrame FrameError → Result FoundFrame FrameError
unnamed_what (Ok frame) = Ok frame
unnamed_what (Err e) = Err (record { error = Rattle.claxon.specs.Errors.TheVariants.OutOfMemory; is_32_bit = e.is_32_bit; first = record { seen = 0; bytes = []; others = 0 } })

abbrev pub unnamed_scanned : Scanned → Scanned
unnamed_scanned r = record { scan = unnamed_scan r.scan; place = unnamed_option r.place }

abbrev pub unnamed_scans : Scans → Scans
unnamed_scans s = record { scan = unnamed_scan s.scan; places = map unnamed s.places }

idem_damage : (d : Damage) → unnamed_damage (unnamed_damage d) ≡ unnamed_damage d
idem_damage (FaultDamage e) = refl
idem_damage d = refl

idem_ended : (e : Option Ended) → unnamed_ended (unnamed_ended e) ≡ unnamed_ended e
idem_ended None = refl
idem_ended (Some e) = ap (λ (d : Damage). Some (record { place = record { start_byte = e.place.start_byte; end_byte = 0; start_sample = e.place.start_sample; end_sample = e.place.end_sample; damage = d }; skipped = e.skipped; early = e.early })) (idem_damage e.place.damage)

idem_place : (e : Option Ended) → unnamed_option (ended_place (unnamed_ended e)) ≡ unnamed_option (ended_place e)
idem_place None = refl
idem_place (Some e) = ap (λ (d : Damage). Some (record { start_byte = e.place.start_byte; end_byte = 0; start_sample = e.place.start_sample; end_sample = e.place.end_sample; damage = d })) (idem_damage e.place.damage)

late_same : (d : Damage) → unnamed_damage (late_damage d) ≡ unnamed_damage (late_damage (unnamed_damage d))
late_same (FaultDamage e) = refl
late_same d = refl

damaged_same : (byte : ℕ) (d : Damage) (due : Due) (ended : Option Ended) (begun : Option Begun) → unnamed_scan (damaged byte d (record { due = due; ended = ended; begun = begun })) ≡ unnamed_scan (damaged byte d (unnamed_scan (record { due = due; ended = ended; begun = begun })))
damaged_same byte d due ended None = ap (λ (z : Option Ended). record { due = due; ended = z; begun = Some (record { byte = byte; sample = due.sample; damage = unnamed_damage d }) }) (sym (idem_ended ended))
damaged_same byte d due ended (Some b) =
    ap (λ (z : Option Ended). record { due = due; ended = z; begun = Some (record { byte = b.byte; sample = b.sample; damage = unnamed_damage b.damage }) }) (sym (idem_ended ended))
    ∙ ap (λ (z : Damage). record { due = due; ended = unnamed_ended (unnamed_ended ended); begun = Some (record { byte = b.byte; sample = b.sample; damage = z }) }) (sym (idem_damage b.damage))

fault_same : (byte : ℕ) (e : FrameError) (scan : Scan) → unnamed_scan (damaged byte (FaultDamage e) scan) ≡ unnamed_scan (damaged byte (unnamed_damage (FaultDamage e)) scan)
fault_same byte e scan = go scan.begun
  where
    go : (begun : Option Begun) → unnamed_scan (damaged byte (FaultDamage e) (record { due = scan.due; ended = scan.ended; begun = begun })) ≡ unnamed_scan (damaged byte (unnamed_damage (FaultDamage e)) (record { due = scan.due; ended = scan.ended; begun = begun }))
    go None = refl
    go (Some b) = refl

module _ (info : Streaminfo) (byte : ℕ) (frame : FoundFrame) (due : Due) where
  abbrev at_frame : Option Ended → Option Begun → Scan
  at_frame ended begun = record { due = due; ended = ended; begun = begun }

  ends_same : (ended : Option Ended) (p q : Place) → unnamed p ≡ unnamed q → unnamed_scanned (ends_place due ended (due_after info due frame) frame p) ≡ unnamed_scanned (ends_place due (unnamed_ended ended) (due_after info due frame) frame q)
  ends_same ended p q e =
      ap (λ (z : Place). record { scan = record { due = due_after info due frame; ended = Some (record { place = z; skipped = record { first = due.number; after = frame.header.number }; early = record { first = 0; after = 0 } }); begun = None }; place = unnamed_option (ended_place ended) }) e
      ∙ ap (λ (z : Option Place). record { scan = record { due = due_after info due frame; ended = Some (record { place = unnamed q; skipped = record { first = due.number; after = frame.header.number }; early = record { first = 0; after = 0 } }); begun = None }; place = z }) (sym (idem_place ended))

  kept_same : (ended : Option Ended) → unnamed_scanned (not_ended (record { due = due_after info due frame; ended = ended; begun = None })) ≡ unnamed_scanned (not_ended (record { due = due_after info due frame; ended = unnamed_ended ended; begun = None }))
  kept_same ended = ap (λ (z : Option Ended). record { scan = record { due = due_after info due frame; ended = z; begun = None }; place = None }) (sym (idem_ended ended))

  abbrev at_next : Option Ended → Scan
  at_next ended = record { due = due_after info due frame; ended = ended; begun = None }

  abbrev missing : Place
  missing = missing_place due frame byte (first_sample info due frame.header)

  goes_on_same : (ended : Option Ended) (begun : Option Begun) → unnamed_scanned (goes_on_after info byte frame due ended begun) ≡ unnamed_scanned (goes_on_after info byte frame due (unnamed_ended ended) (unnamed_begun begun))
  goes_on_same ended (Some b) = ends_same ended (place_until b byte (first_sample info due frame.header)) (place_until (record { byte = b.byte; sample = b.sample; damage = unnamed_damage b.damage }) byte (first_sample info due frame.header))
      (ap (λ (d : Damage). record { start_byte = b.byte; end_byte = 0; start_sample = b.sample; end_sample = first_sample info due frame.header; damage = d }) (sym (idem_damage b.damage)))
  goes_on_same None None = refl
  goes_on_same (Some e) None = go (frame.header.number == due.number) (fills (Some e) due.number frame.header.number)
    where
      go : (same fill : Bool) → unnamed_scanned (if same then not_ended (at_next (Some e)) else if fill then not_ended (at_next (filled (Some e) byte (first_sample info due frame.header))) else ends_place due (Some e) (due_after info due frame) frame missing)
          ≡ unnamed_scanned (if same then not_ended (at_next (unnamed_ended (Some e))) else if fill then not_ended (at_next (filled (unnamed_ended (Some e)) byte (first_sample info due frame.header))) else ends_place due (unnamed_ended (Some e)) (due_after info due frame) frame missing)
      go true fill = kept_same (Some e)
      go false true = ap (λ (d : Damage). not_ended (at_next (Some (record { place = record { start_byte = e.place.start_byte; end_byte = 0; start_sample = e.place.start_sample; end_sample = first_sample info due frame.header; damage = d }; skipped = e.skipped; early = record { first = 0; after = 0 } })))) (late_same e.place.damage)
      go false false = ends_same (Some e) missing missing refl

  returned_same : (ended : Option Ended) (begun : Option Begun) → unnamed_scanned (returned info byte frame (at_frame ended begun)) ≡ unnamed_scanned (returned info byte frame (at_frame (unnamed_ended ended) (unnamed_begun begun)))
  returned_same None begun = refl
  returned_same (Some e) begun = ap (λ (d : Damage). not_ended (record { due = due_after info due frame; ended = Some (record { place = record { start_byte = e.place.start_byte; end_byte = 0; start_sample = e.place.start_sample; end_sample = first_sample info due frame.header; damage = d }; skipped = record { first = e.skipped.first; after = frame.header.number }; early = record { first = e.skipped.after; after = greater due.number e.early.after } }); begun = None })) (late_same e.place.damage)

  damaged_here : (d : Damage) (ended : Option Ended) (begun : Option Begun) → unnamed_scanned (not_ended (damaged byte d (at_frame ended begun))) ≡ unnamed_scanned (not_ended (damaged byte d (at_frame (unnamed_ended ended) (unnamed_begun begun))))
  damaged_here d ended begun = ap (λ (z : Scan). record { scan = z; place = let none : Option Place = None in none }) (damaged_same byte d due ended begun)

  judged_same : (ended : Option Ended) (begun : Option Begun) (other : Option Damage) → unnamed_scanned (judged info byte frame (at_frame ended begun) other) ≡ unnamed_scanned (judged info byte frame (at_frame (unnamed_ended ended) (unnamed_begun begun)) other)
  judged_same ended begun (Some d) = damaged_here d ended begun
  judged_same None begun None = go (nat_lt frame.header.number due.number)
    where
      go : (less : Bool) → unnamed_scanned (if less then not_ended (damaged byte Repeated (at_frame None begun)) else goes_on_after info byte frame due None begun)
          ≡ unnamed_scanned (if less then not_ended (damaged byte Repeated (at_frame None (unnamed_begun begun))) else goes_on_after info byte frame due None (unnamed_begun begun))
      go true = damaged_here Repeated None begun
      go false = goes_on_same None begun
  judged_same (Some e) begun None = go (nat_lt frame.header.number due.number) (returns (Some e) frame.header.number)
    where
      go : (less comes : Bool) → unnamed_scanned (if less then (if comes then returned info byte frame (at_frame (Some e) begun) else not_ended (damaged byte Repeated (at_frame (Some e) begun))) else goes_on_after info byte frame due (Some e) begun)
          ≡ unnamed_scanned (if less then (if comes then returned info byte frame (at_frame (unnamed_ended (Some e)) (unnamed_begun begun)) else not_ended (damaged byte Repeated (at_frame (unnamed_ended (Some e)) (unnamed_begun begun)))) else goes_on_after info byte frame due (unnamed_ended (Some e)) (unnamed_begun begun))
      go true true = returned_same (Some e) begun
      go true false = damaged_here Repeated (Some e) begun
      go false comes = goes_on_same (Some e) begun

-- one step does the same
part_same : (info : Streaminfo) (start : ℕ) (what : Result FoundFrame FrameError) (scan : Scan) → unnamed_scanned (scan_part info scan start what) ≡ unnamed_scanned (scan_part info (unnamed_scan scan) start (unnamed_what what))
part_same info start (Ok frame) scan = judged_same info start frame scan.due scan.ended scan.begun (other_stream info scan.due frame)
part_same info start (Err e) scan = ap (λ (z : Scan). record { scan = z; place = let none : Option Place = None in none }) (fault_same start e scan ∙ damaged_same start (unnamed_damage (FaultDamage e)) scan.due scan.ended scan.begun)

map_append : (xs ys : List Place) → map unnamed (xs ++ ys) ≡ map unnamed xs ++ map unnamed ys
map_append [] ys = refl
map_append (x ∷ xs) ys = ap (λ (z : List Place). unnamed x ∷ z) (map_append xs ys)

map_list : (o : Option Place) → map unnamed (list_of o) ≡ list_of (unnamed_option o)
map_list None = refl
map_list (Some place) = refl

scanned_places : (places : List Place) (r : Scanned) → unnamed_scans (with_scanned places r) ≡ record { scan = unnamed_scan r.scan; places = map unnamed places ++ list_of (unnamed_option r.place) }
scanned_places places r = ap (λ (z : List Place). record { scan = unnamed_scan r.scan; places = z }) (map_append places (list_of r.place) ∙ ap (λ (z : List Place). map unnamed places ++ z) (map_list r.place))

-- The parts are the same, but for the errors of faults.
abbrev pub SameParts : List FoundPart → List FoundPart → Type 0
SameParts [] [] = Unit {0}
SameParts (a ∷ xs) (b ∷ ys) = (a.start ≡ b.start) × (unnamed_what a.what ≡ unnamed_what b.what) × SameParts xs ys
SameParts _ _ = ⊥

more_same : (info : Streaminfo) (s : Scans) (part : FoundPart) → unnamed_scans (scan_more info s part) ≡ (let r = unnamed_scanned (scan_part info (unnamed_scan s.scan) part.start (unnamed_what part.what)) in record { scan = r.scan; places = map unnamed s.places ++ list_of r.place })
more_same info s part = scanned_places s.places (scan_part info s.scan part.start part.what) ∙ ap (λ (r : Scanned). record { scan = r.scan; places = map unnamed s.places ++ list_of r.place }) (part_same info part.start part.what s.scan)

step_same : (info : Streaminfo) (s t : Scans) (a b : FoundPart) → unnamed_scans s ≡ unnamed_scans t → a.start ≡ b.start → unnamed_what a.what ≡ unnamed_what b.what → unnamed_scans (scan_more info s a) ≡ unnamed_scans (scan_more info t b)
step_same info s t a b e start what =
    more_same info s a
    ∙ ap (λ (z : Scans). let r = unnamed_scanned (scan_part info z.scan a.start (unnamed_what a.what)) in record { scan = r.scan; places = z.places ++ list_of r.place }) e
    ∙ ap (λ (n : ℕ). let r = unnamed_scanned (scan_part info (unnamed_scan t.scan) n (unnamed_what a.what)) in record { scan = r.scan; places = map unnamed t.places ++ list_of r.place }) start
    ∙ ap (λ (w : Result FoundFrame FrameError). let r = unnamed_scanned (scan_part info (unnamed_scan t.scan) b.start w) in record { scan = r.scan; places = map unnamed t.places ++ list_of r.place }) what
    ∙ sym (more_same info t b)

parts_same : (info : Streaminfo) (s t : Scans) (xs ys : List FoundPart) → unnamed_scans s ≡ unnamed_scans t → SameParts xs ys → unnamed_scans (scan_parts info s xs) ≡ unnamed_scans (scan_parts info t ys)
parts_same info s t [] [] e same = e
parts_same info s t [] (b ∷ ys) e same = absurd same
parts_same info s t (a ∷ xs) [] e same = absurd same
parts_same info s t (a ∷ xs) (b ∷ ys) e same = parts_same info (scan_more info s a) (scan_more info t b) xs ys (step_same info s t a b e same.0 same.1) same.2

last_same : (end other samples : ℕ) (due : Due) (begun : Option Begun) → (begun ≡ None → end ≡ other) → unnamed_option (last_place end samples due begun) ≡ unnamed_option (last_place other samples due (unnamed_begun begun))
last_same end other samples due (Some b) same = ap (λ (d : Damage). Some (record { start_byte = b.byte; end_byte = 0; start_sample = b.sample; end_sample = greater due.sample samples; damage = d })) (sym (idem_damage b.damage))
last_same end other samples due None same = ap (λ (n : ℕ). unnamed_option (last_place n samples due None)) (same refl)

at_end_same : (end other samples : ℕ) (s : Scans) → (s.scan.begun ≡ None → end ≡ other) → map unnamed (places_at end samples s) ≡ map unnamed s.places ++ (list_of (unnamed_option (ended_place (unnamed_ended s.scan.ended))) ++ list_of (unnamed_option (last_place other samples s.scan.due (unnamed_begun s.scan.begun))))
at_end_same end other samples s same =
    map_append s.places (list_of (ended_place s.scan.ended) ++ list_of (last_place end samples s.scan.due s.scan.begun))
    ∙ ap (λ (z : List Place). map unnamed s.places ++ z) (
    map_append (list_of (ended_place s.scan.ended)) (list_of (last_place end samples s.scan.due s.scan.begun))
    ∙ ap (λ (z : List Place). z ++ map unnamed (list_of (last_place end samples s.scan.due s.scan.begun))) (map_list (ended_place s.scan.ended) ∙ ap list_of (sym (idem_place s.scan.ended)))
    ∙ ap (λ (z : List Place). list_of (unnamed_option (ended_place (unnamed_ended s.scan.ended))) ++ z) (map_list (last_place end samples s.scan.due s.scan.begun) ∙ ap list_of (last_same end other samples s.scan.due s.scan.begun same))
    )

-- the same parts have the same places, but for the end of the stream
pub places_same : (info : Streaminfo) (end other : ℕ) (xs ys : List FoundPart) → SameParts xs ys → ((scan_parts info (record { scan = begun_scan; places = [] }) xs).scan.begun ≡ None → end ≡ other) → map unnamed (places_of info end xs) ≡ map unnamed (places_of info other ys)
places_same info end other xs ys same ends =
    let start : Scans = record { scan = begun_scan; places = [] } in
    let e = parts_same info start start xs ys refl same in
    at_end_same end other info.samples (scan_parts info start xs) ends
    ∙ ap (λ (z : Scans). z.places ++ (list_of (unnamed_option (ended_place z.scan.ended)) ++ list_of (unnamed_option (last_place other info.samples z.scan.due z.scan.begun)))) e
    ∙ sym (at_end_same other other info.samples (scan_parts info start ys) (λ none. refl))

some_begun : (x : Begun) → Some x ≡ None → ⊥
some_begun x e = cc

-- a place goes on after a fault
pub fault_begun : (info : Streaminfo) (scans : Scans) (found : List FoundPart) (here : FoundPart) (e : FrameError) → here.what ≡ Err e → (scan_parts info scans (found ++ here ∷ [])).scan.begun ≡ None → ⊥
fault_begun info scans found here e is none =
    let s = scan_parts info scans found in
    let pushed = subst (λ (z : Scans). z.scan.begun ≡ None) (scan_push info scans found here) none in
    let fault = subst (λ (w : Result FoundFrame FrameError). (with_scanned s.places (scan_part info s.scan here.start w)).scan.begun ≡ None) is pushed in
    some_begun _ fault
