-- What is wrong with a stream, place by place. A place begins where the first thing is wrong, and
-- ends where the next frame of the stream that goes on in order begins, or at the end. Its samples
-- are those from the one that was due to the one that comes, or to the streaminfo's number of
-- samples where none comes.
use Rattle.std.specs.Prelude.{◌==◌, ◌&&◌, ℕ, ◌+◌, ◌-◌, ◌*◌, ◌%◌, ◌^◌, Bool, false, true, if◌then◌else◌, nat_lt, not, List, [], ◌∷◌, ◌++◌, Option, None, Some, Ok, Err, Result}
use Rattle.claxon.specs.BlockInfos.{BlockInfo}
use Rattle.claxon.specs.Errors.TheVariants.{OutOfMemory}
use Rattle.claxon.specs.Streaminfo.{Streaminfo}
use Rattle.claxon_blocks.specs.declared.frames.FrameError.{FrameError}
use Rattle.claxon_report.specs.declared.due.Due.{Due}
use Rattle.claxon_report.specs.declared.due.FoundFrame.{FoundFrame}
use Rattle.claxon_report.specs.declared.place.Damage.{Damage}
use Rattle.claxon_report.specs.declared.place.Damage.TheVariants.{
  Beyond,
  BitDepth,
  BlockingStrategy,
  Channels,
  Fault,
  Missing,
  OutOfOrder,
  Repeated,
  SampleRate,
  WideSample,
}
use Rattle.claxon_report.specs.declared.place.Place.{Place}
use Rattle.claxon_report.specs.declared.scan.Begun.{Begun}
use Rattle.claxon_report.specs.declared.scan.Ended.{Ended}
use Rattle.claxon_report.specs.declared.scan.Numbers.{Numbers}
use Rattle.claxon_report.specs.declared.scan.Scan.{Scan}
use Rattle.claxon_report.specs.declared.scan.Scanned.{Scanned}

-- ---- what is due. Numbers are counted modulo 2^64.

-- the number of a frame's first sample: that which is due; or its coded number tells it, by the
-- streaminfo's block size where that is fixed (section 9.1.5)
abbrev pub first_sample : Streaminfo → Due → BlockInfo → ℕ
first_sample info due header =
    if header.number == due.number then due.sample
    else if header.is_variable then header.number
    else (header.number * info.max_block_size) % 2 ^ 64

-- what is due after this frame of the stream
abbrev pub due_after : Streaminfo → Due → FoundFrame → Due
due_after info due frame = record {
  is_variable = Some frame.header.is_variable;
  number = (frame.header.number + (if frame.header.is_variable then frame.duration else 1))
      % 2 ^ 64;
  sample = (first_sample info due frame.header + frame.duration) % 2 ^ 64;
}

-- ---- frames of another stream

-- the sample rate in a header, or that of the streaminfo where it has none
abbrev pub rate_or : Option ℕ → ℕ → ℕ
rate_or None rate = rate
rate_or (Some rate) _ = rate

-- whether a frame has the blocking strategy of those before it, if there is one
abbrev pub has_strategy : Option Bool → Bool → Bool
has_strategy None is_variable = true
has_strategy (Some true) is_variable = is_variable
has_strategy (Some false) is_variable = not is_variable

-- whether fewer samples are due up to the last one that the streaminfo says, if it says one, than a
-- frame has
abbrev pub is_beyond : Streaminfo → Due → FoundFrame → Bool
is_beyond info due frame =
    not (info.samples == 0)
    && (not (nat_lt info.samples due.sample)
    && nat_lt info.samples ((due.sample + frame.duration) % 2 ^ 64))

-- Why a frame isn't one of the stream: of its channels, its bit depth, its sample rate, its
-- blocking strategy, its samples and their number the first that isn't as it has to be.
abbrev pub other_stream : Streaminfo → Due → FoundFrame → Option Damage
other_stream info due frame =
    if frame.header.channels == info.channels then
    (if frame.header.bit_depth == info.bit_depth then
    (if rate_or frame.header.sample_rate info.rate == info.rate then
    (if has_strategy due.is_variable frame.header.is_variable then
    (if frame.fits then
    (if not (is_beyond info due frame) then None
    else Some Beyond)
    else Some WideSample)
    else Some BlockingStrategy)
    else Some (SampleRate (rate_or frame.header.sample_rate info.rate)))
    else Some (BitDepth frame.header.bit_depth))
    else Some (Channels frame.header.channels)

-- ---- where a place begins and ends

-- what is before the first part
abbrev pub begun_scan : Scan
begun_scan = record {
  due = record { is_variable = None; number = 0; sample = 0 };
  ended = None;
  begun = None;
}

-- the first of both, if there is one
abbrev pub begun_or : Option Begun → Begun → Begun
begun_or None here = here
begun_or (Some begun) _ = begun

-- Something is wrong at this byte: a place begins there, if none goes on.
abbrev pub damaged : ℕ → Damage → Scan → Scan
damaged byte damage scan = record {
  due = scan.due;
  ended = scan.ended;
  begun =
      Some (
      begun_or scan.begun (
      record { byte = byte; sample = scan.due.sample; damage = damage }));
}

-- The place ends at this byte, before this sample.
abbrev pub place_until : Begun → ℕ → ℕ → Place
place_until begun end_byte end_sample = record {
  start_byte = begun.byte;
  end_byte = end_byte;
  start_sample = begun.sample;
  end_sample = end_sample;
  damage = begun.damage;
}

-- Frames are missing before this one, which begins at this byte with this sample.
abbrev pub missing_place : Due → FoundFrame → ℕ → ℕ → Place
missing_place due frame byte sample = record {
  start_byte = byte;
  end_byte = byte;
  start_sample = due.sample;
  end_sample = sample;
  damage = Missing (record {
    count = frame.header.number - due.number;
    is_variable = frame.header.is_variable;
  });
}

-- Samples are missing at the end.
abbrev pub missing_at_end : ℕ → ℕ → ℕ → Place
missing_at_end end sample samples = record {
  start_byte = end;
  end_byte = end;
  start_sample = sample;
  end_sample = samples;
  damage = Missing (record { count = samples - sample; is_variable = true });
}

abbrev pub greater : ℕ → ℕ → ℕ
greater a b = if nat_lt a b then b else a

-- ---- frames that come too early

-- What is missing is out of order, if it comes later.
abbrev pub late_damage : Damage → Damage
late_damage (Missing gap) = OutOfOrder
late_damage damage = damage

-- The place goes on up to this byte and this sample.
abbrev pub longer : Place → ℕ → ℕ → Place
longer place end_byte end_sample = record {
  start_byte = place.start_byte;
  end_byte = end_byte;
  start_sample = place.start_sample;
  end_sample = end_sample;
  damage = late_damage place.damage;
}

-- no numbers
abbrev pub no_numbers : Numbers
no_numbers = record { first = 0; after = 0 }

-- whether a frame with this number was due in the place that ended last, and didn't come
abbrev pub returns : Option Ended → ℕ → Bool
returns None number = false
returns (Some ended) number =
    not (nat_lt number ended.skipped.first) && nat_lt number ended.skipped.after

-- It comes now: the frames since that place came too early, and the place ends here.
abbrev pub out_of_order : Option Ended → ℕ → ℕ → ℕ → ℕ → Option Ended
out_of_order None due number byte sample = None
out_of_order (Some ended) due number byte sample = Some (record {
  place = longer ended.place byte sample;
  skipped = record { first = ended.skipped.first; after = number };
  early = record { first = ended.skipped.after; after = greater due ended.early.after };
})

-- whether frames that came too early are all that are missing from the one that is due up to this
-- one
abbrev pub fills : Option Ended → ℕ → ℕ → Bool
fills None due number = false
fills (Some ended) due number = (ended.early.first == due) && (ended.early.after == number)

-- The place in which they stand ends here.
abbrev pub filled : Option Ended → ℕ → ℕ → Option Ended
filled None byte sample = None
filled (Some ended) byte sample = Some (record {
  place = longer ended.place byte sample;
  skipped = ended.skipped;
  early = no_numbers;
})

-- ---- one part more

-- the place of those that ended last
abbrev pub ended_place : Option Ended → Option Place
ended_place None = None
ended_place (Some ended) = Some ended.place

-- No place can't go on any more.
abbrev pub not_ended : Scan → Scanned
not_ended scan = record { scan = scan; place = None }

-- The frame ends this place, and the one before can't go on any more.
abbrev pub ends_place : Due → Option Ended → Due → FoundFrame → Place → Scanned
ends_place due ended next frame place = record {
  scan = record {
    due = next;
    ended = Some (record {
      place = place;
      skipped = record { first = due.number; after = frame.header.number };
      early = no_numbers;
    });
    begun = None;
  };
  place = ended_place ended;
}

-- The frame at this byte is the next one that goes on in order: it ends the place that goes on, or
-- one that is missing, unless the missing frames came too early.
abbrev pub goes_on_after : Streaminfo → ℕ → FoundFrame → Due → Option Ended → Option Begun → Scanned
goes_on_after info byte frame due ended (Some begun) =
    ends_place due ended (due_after info due frame) frame
    (place_until begun byte (first_sample info due frame.header))
goes_on_after info byte frame due ended None =
    if frame.header.number == due.number then
    not_ended (record { due = due_after info due frame; ended = ended; begun = None })
    else if fills ended due.number frame.header.number then
    not_ended (record {
      due = due_after info due frame;
      ended = filled ended byte (first_sample info due frame.header);
      begun = None;
    })
    else ends_place due ended (due_after info due frame) frame
    (missing_place due frame byte (first_sample info due frame.header))

abbrev pub goes_on : Streaminfo → ℕ → FoundFrame → Scan → Scanned
goes_on info byte frame scan = goes_on_after info byte frame scan.due scan.ended scan.begun

-- The frame at this byte was due in the place that ended last.
abbrev pub returned : Streaminfo → ℕ → FoundFrame → Scan → Scanned
returned info byte frame scan = not_ended (record {
  due = due_after info scan.due frame;
  ended =
      out_of_order scan.ended scan.due.number frame.header.number byte
      (first_sample info scan.due frame.header);
  begun = None;
})

-- A frame at this byte, which isn't one of the stream for this reason, if there is one: it goes on
-- in order if its number is the one that is due, or greater, or was due in the place before.
abbrev pub judged : Streaminfo → ℕ → FoundFrame → Scan → Option Damage → Scanned
judged info byte frame scan (Some damage) = not_ended (damaged byte damage scan)
judged info byte frame scan None =
    if nat_lt frame.header.number scan.due.number then
    (if returns scan.ended frame.header.number then returned info byte frame scan
    else not_ended (damaged byte Repeated scan))
    else goes_on info byte frame scan

abbrev pub scan_frame : Streaminfo → ℕ → FoundFrame → Scan → Scanned
scan_frame info byte frame scan = judged info byte frame scan (other_stream info scan.due frame)

-- the last place of a stream that ends at this byte and should have so many samples: one that goes
-- on, or samples that are missing
abbrev pub last_place : ℕ → ℕ → Due → Option Begun → Option Place
last_place end samples due (Some begun) =
    Some (place_until begun end (greater due.sample samples))
last_place end samples due None =
    if nat_lt due.sample samples then Some (missing_at_end end due.sample samples) else None

-- the last places: the one that ended last, and the last one
abbrev pub last_places : ℕ → ℕ → Scan → Option Place × Option Place
last_places end samples scan =
    (ended_place scan.ended, last_place end samples scan.due scan.begun)

-- ---- all parts

-- a frame, or why none is decoded, and the byte at which it begins
pub record FoundPart : Type 0 where
  pub start : ℕ
  pub what : Result FoundFrame FrameError

abbrev pub scan_part : Streaminfo → Scan → ℕ → Result FoundFrame FrameError → Scanned
scan_part info scan start (Ok frame) = scan_frame info start frame scan
scan_part info scan start (Err e) = not_ended (damaged start (Fault e) scan)

abbrev pub list_of : Option Place → List Place
list_of None = []
list_of (Some place) = place ∷ []

-- the places that can't go on any more, and the scan
pub record Scans : Type 0 where
  pub scan : Scan
  pub places : List Place

abbrev pub with_scanned : List Place → Scanned → Scans
with_scanned places scanned =
    record { scan = scanned.scan; places = places ++ list_of scanned.place }

abbrev pub scan_more : Streaminfo → Scans → FoundPart → Scans
scan_more info scans part =
    with_scanned scans.places (scan_part info scans.scan part.start part.what)

abbrev pub scan_parts : Streaminfo → Scans → List FoundPart → Scans
scan_parts info scans [] = scans
scan_parts info scans (part ∷ parts) = scan_parts info (scan_more info scans part) parts

-- all places, where the stream ends at this byte and should have so many samples
abbrev pub places_at : ℕ → ℕ → Scans → List Place
places_at end samples scans =
    scans.places ++ (list_of (ended_place scans.scan.ended)
    ++ list_of (last_place end samples scans.scan.due scans.scan.begun))

-- the places of a stream of these parts, which ends at this byte
abbrev pub places_of : Streaminfo → ℕ → List FoundPart → List Place
places_of info end parts =
    places_at end info.samples (scan_parts info (record { scan = begun_scan; places = [] }) parts)

-- ---- places without the error that names a fault

-- what is wrong, but for the error that names it
abbrev pub unnamed_damage : Damage → Damage
unnamed_damage (Fault e) = Fault (record {
  error = OutOfMemory;
  is_32_bit = e.is_32_bit;
  first = record { seen = 0; bytes = []; others = 0 };
})
unnamed_damage damage = damage

-- a place, but for its end and the error that names what is wrong
abbrev pub unnamed : Place → Place
unnamed place = record {
  start_byte = place.start_byte;
  end_byte = 0;
  start_sample = place.start_sample;
  end_sample = place.end_sample;
  damage = unnamed_damage place.damage;
}
