-- What the metadata blocks so far allow (RFC 9639, section 8).
use Rattle.std.specs.Prelude.{
  ◌≡◌,
  ◌-◌,
  Bool,
  true,
  false,
  if◌then◌else◌,
  not,
  nat_lt,
  ◌&&◌,
  ◌||◌,
  Option,
  None,
  Some,
  Result,
  Ok,
  IsErrAnd,
}
use Rattle.claxon.specs.Error.{IsFault}
use Rattle.claxon.specs.Errors.{Error}
use Rattle.claxon.specs.Fault.{Fault, SecondComment, SecondStreaminfo, StreaminfoMissing}
use Rattle.claxon.specs.Heads.{is_comment, is_info, max_blocks}
use Rattle.claxon.specs.MetadataBlock.{content_view}
use Rattle.claxon.specs.MetadataBlocks.{Content}
use Rattle.claxon.specs.MetadataBlockVariants.{MetadataBlock}
use Rattle.claxon.specs.declared.head.FlacReaderOptions.{FlacReaderOptions}
use Rattle.claxon_stream.specs.declared.head.rules.Rules.{Rules}

-- before the first block
abbrev pub first_rules : FlacReaderOptions → Rules
first_rules o = record { options = o; has_info = false; has_comment = false; most = max_blocks }

-- there may be one more block
abbrev pub allows_more : Rules → Bool
allows_more r = nat_lt 0 r.most

-- after a block with this content, which they allow
abbrev pub rules_after : Rules → Content → Rules
rules_after r c = record {
  options = r.options;
  has_info = true;
  has_comment = r.has_comment || is_comment c;
  most = r.most - 1;
}

-- no more is wanted after this content, where metadata alone is: it is the streaminfo, and comments
-- aren't wanted; or there are comments
abbrev pub is_enough : Rules → Content → Bool
is_enough r c =
    if r.has_info then r.has_comment || is_comment c else not r.options.read_vorbis_comment

-- the head ends after a block with this flag and content
abbrev pub ends_head : Rules → Bool → Content → Bool
ends_head r is_last c = is_last || (r.options.metadata_only && is_enough r c)

-- the streaminfo comes first and nowhere else, and at most one block has comments
abbrev pub misses_info : Rules → Content → Bool
misses_info r c = not r.has_info && not (is_info c)

abbrev pub has_second_info : Rules → Content → Bool
has_second_info r c = r.has_info && is_info c

abbrev pub has_second_comment : Rules → Content → Bool
has_second_comment r c = r.has_comment && is_comment c

-- the fault of a block with this content, if it has one
abbrev pub refused : Rules → Content → Option Fault
refused r c =
    if misses_info r c then Some StreaminfoMissing
    else if has_second_info r c then Some SecondStreaminfo
    else if has_second_comment r c then Some SecondComment
    else None

-- the block, or an error that names the fault
abbrev pub IsBlockOrFault : {A : Type 0} → Option Fault → MetadataBlock A
    → Result (MetadataBlock A) Error → Type 0
IsBlockOrFault None block result = result ≡ Ok block
IsBlockOrFault (Some f) block result = IsErrAnd result (IsFault f)

abbrev pub IsAllowed : {A : Type 0} → Rules → MetadataBlock A → Result (MetadataBlock A) Error
    → Type 0
IsAllowed r block result = IsBlockOrFault (refused r (content_view block)) block result
