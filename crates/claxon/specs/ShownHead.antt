-- Views of a `Head` for contracts.
use Rattle.std.specs.Prelude.{◌≤◌, ℕ, List, [], Option, None, Some, IfSome}
use Rattle.claxon_format.specs.Comments.{Comment}
use Rattle.claxon_format.specs.Heads.{Head}
use Rattle.claxon_format.specs.Tags.{tags_of_entries}
use Rattle.claxon_metadata.specs.TagEntries.{HaveSeparatorIndices}
use Rattle.claxon_metadata.specs.declared.metadata.VorbisComment.{VorbisComment}
use Rattle.claxon_metadata.specs.declared.metadata.streaminfo.StreamInfo.{StreamInfo}
use Rattle.claxon.specs.ReadHead.{head_view}
use Rattle.claxon.specs.declared.head.shown.Head.{Head as ShownHead}

-- a bit depth of 1 to 32
abbrev pub HasBitDepth : StreamInfo → Type 0
HasBitDepth info = (1 ≤ info.bits_per_sample) × (info.bits_per_sample ≤ 32)

-- Each entry of the comments, if any, is split at its separator.
abbrev pub HasSeparatorIndices : {A : Type 0} → Option (VorbisComment A) → Type 0
HasSeparatorIndices found = IfSome found (λ comment. HaveSeparatorIndices comment.comments.items)

-- `head.streaminfo()`
abbrev pub head_streaminfo : {A : Type 0} → ShownHead A → StreamInfo
head_streaminfo s = s.streaminfo

-- the head, as far as it is shown
abbrev pub shown_view : {A : Type 0} → ShownHead A → Head
shown_view s = head_view (s.streaminfo, s.vorbis_comment)

-- of comments, if any: the vendor string; the names and values of the tags
abbrev pub comment_vendor : Option Comment → Option (List ℕ)
comment_vendor None = None
comment_vendor (Some comment) = Some comment.vendor

abbrev pub comment_tags : Option Comment → List (List ℕ × List ℕ)
comment_tags None = []
comment_tags (Some comment) = tags_of_entries comment.entries

-- the vendor string that is shown
abbrev pub head_vendor : {A : Type 0} → ShownHead A → Option (List ℕ)
head_vendor s = comment_vendor (shown_view s).comment

-- the names and values of the tags that are shown
abbrev pub head_tags : {A : Type 0} → ShownHead A → List (List ℕ × List ℕ)
head_tags s = comment_tags (shown_view s).comment
