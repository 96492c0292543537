use Rattle.std.proofs.Common.{◌≡◌, ℕ, ◌+◌, ◌-◌, ◌<◌, ◌≤◌, Bool, true, false, not, ◌&&◌, List, Option, None, Some, ltb, refl, arith, rules}
use Rattle.std.proofs.lemmas.Bool.{le-ltb, lt-ltb}
use Rattle.claxon_format.specs.Fault.{fault_text}
use Rattle.claxon_format.specs.Frame.{StreamFormat, known_bit_depth}
use Rattle.claxon_format.specs.Header.{Fields}
use Rattle.claxon_format.specs.read.Reading.{Done}
use Rattle.claxon_format.specs.read.Header.{bit_depth_at}
use Rattle.claxon_input.proofs.ConsecutiveCalls.{consumes_none}
use Rattle.claxon_frame.specs.FrameHeader.{HasBitDepthCode, max_bit_depth, bit_depth_code}
use Rattle.claxon_frame.specs.FrameStart.{fields_view, stream_format_view}
use Rattle.claxon_frame.specs.declared.frame.header.parts.ChannelAssignment.{ChannelAssignment}
use Rattle.claxon_frame.specs.declared.frame.header.parts.ChannelAssignment.TheVariants.{Independent, LeftSideStereo, RightSideStereo, MidSideStereo}
use Rattle.claxon_frame.specs.declared.frame.header.parts.HeaderFields.{HeaderFields}
use Rattle.claxon_frame.specs.declared.frame.header.parts.KnownStreamFormat.{KnownStreamFormat}
use Rattle.claxon_frame.proofs.BitDepthCodes.{code_names}
use Rattle.claxon_frame.proofs.frame.header.resolve_bit_depth.Goals as goal

and_false : (b : Bool) → (b && false) ≡ false
and_false true = refl
and_false false = refl

-- the bit depth that the header gives
named_read : (stream : Option StreamFormat) (f : Fields) (bits : ℕ) (s : List ℕ) → f.bit_depth_code ≡ bit_depth_code (Some bits) → HasBitDepthCode bits → bit_depth_at (known_bit_depth stream) f s ≡ Done bits s
unfolding bit_depth_at
named_read stream f bits s e h =
    let n = code_names (known_bit_depth stream) bits h in
    let few = n.few in
    let k : ltb 32 (bits + 1) ≡ false = le-ltb _ _ (omega arith) in
    rw (e, n.value, k, and_false (not (ltb f.channel_code 8))) refl

-- a side channel has one bit more at most
side_fits : (a : ChannelAssignment) (bits : ℕ) → bits ≤ 24 → max_bit_depth a bits ≤ 32
side_fits (Independent n) bits few = omega arith
side_fits LeftSideStereo bits few = omega arith
side_fits RightSideStereo bits few = omega arith
side_fits MidSideStereo bits few = omega arith

pub returns-in-Some-clause-max_bits : goal.returns-in-Some-clause-max_bits
returns-in-Some-clause-max_bits c =
    side_fits c.args.fields.now.channel_assignment c.in-Some.bits (code_names None c.in-Some.bits (c.args.fields.now.has_code c.in-Some.bits c.in-Some.is)).few

pub returns-in-Some-clause-gives : goal.returns-in-Some-clause-gives
returns-in-Some-clause-gives c here =
    consumes_none here _ (named_read (stream_format_view c.args.stream) (fields_view c.args.fields.now) c.in-Some.bits here.remaining (rw c.in-Some.is refl) (c.args.fields.now.has_code c.in-Some.bits c.in-Some.is))

-- the bit depth of the stream, if there is no side channel
stream_read : (bit_depth : ℕ) (f : Fields) (s : List ℕ) → f.bit_depth_code ≡ 0 → f.channel_code < 8 → bit_depth_at (Some bit_depth) f s ≡ Done bit_depth s
unfolding bit_depth_at
stream_read bit_depth f s e lt = let k : ltb f.channel_code 8 ≡ true = lt-ltb _ _ lt in rw (e, k) refl

independent_read : (stream : Option KnownStreamFormat) (fields : HeaderFields) (format : KnownStreamFormat) (n : ℕ) (s : List ℕ) → stream ≡ Some format → fields.bit_depth ≡ None → fields.channel_assignment ≡ Independent n → n ≤ 8
    → bit_depth_at (known_bit_depth (stream_format_view stream)) (fields_view fields) s ≡ Done format.bit_depth s
independent_read stream fields format n s e w a few =
    let low : n - 1 < 8 = omega arith in
    rw e (stream_read _ (fields_view fields) s (rw w refl) (rw a low))

pub returns-in-Independent-clause-gives : goal.returns-in-Independent-clause-gives
returns-in-Independent-clause-gives c here =
    let few = rw c.in-Independent.is at c.args.fields.now.max_channels in
    consumes_none here _ (independent_read c.args.stream c.args.fields.now c.in-Some-stream.format c.in-Independent.field-0 here.remaining c.in-Some-stream.is c.in_default.is c.in-Independent.is few)

pub returns-in_default-2 : goal.returns-in_default-2
unfolding bit_depth_at fault_text
returns-in_default-2 c = search rules
