-- Readers of metadata blocks and of their content (RFC 9639, section 8).
use Rattle.std.specs.Prelude.{ℕ, ◌-◌, if◌then◌else◌, not, ◌==◌, nat_lt, List}
use Rattle.claxon_format.specs.Fault.{
  StreaminfoLength,
  BlockType,
  ApplicationShort,
  ApplicationLarge,
}
use Rattle.claxon_format.specs.read.Reading.{Reading, and_then, done, test}
use Rattle.claxon_format.specs.Metadata.{max_content_bytes}
use Rattle.claxon_format.specs.read.Bytes.{bytes_at, big_at}
use Rattle.claxon_format.specs.read.Metadata.{block_header_at}
use Rattle.claxon_format.specs.Streaminfo.{Streaminfo}
use Rattle.claxon_format.specs.read.Streaminfo.{streaminfo_at}
use Rattle.claxon_format.specs.read.Comments.{comment_at}
use Rattle.claxon_format.specs.MetadataBlocks.{
  Content,
  skipped,
  MetadataBlock,
  Info,
  Application,
  Comments,
}

-- 34 bytes
unfoldable pub info_body_at : ℕ → List ℕ → Reading ℕ Streaminfo
info_body_at n = test (not (n == 34)) StreaminfoLength streaminfo_at

unfoldable pub application_at : ℕ → List ℕ → Reading ℕ Content
application_at n =
    test (nat_lt n 4) ApplicationShort (test (nat_lt max_content_bytes n) ApplicationLarge (
    and_then (big_at 4) (λ id. and_then (bytes_at (n - 4)) (λ bytes. done (Application id bytes)))))

-- the content of a block of this type and length
unfoldable pub body_at : ℕ → ℕ → List ℕ → Reading ℕ Content
body_at type n =
    if type == 0 then and_then (info_body_at n) (λ i. done (Info i))
    else if type == 2 then application_at n
    else if type == 4 then and_then (comment_at n) (λ c. done (Comments c))
    else test (type == 127) BlockType (and_then (bytes_at n) (λ bytes. done (skipped type n)))

unfoldable pub block_at : List ℕ → Reading ℕ MetadataBlock
block_at =
    and_then block_header_at (λ h.
    and_then (body_at h.type h.length) (λ content.
    done (record { is_last = h.is_last; content = content })))
