use Rattle.std.proofs.Common.{◌≡◌, ◌++◌, string_bytes}
use Rattle.std.specs.Str.Chunks.{utf8_chunks_rest}
use Rattle.claxon_command_line.specs.Names.{escaped_bytes}
use Rattle.claxon_command_line.proofs.names.escaped_bytes.Given as goal

-- The text so far, and that of the bytes that are left.
abbrev pub invariant-loop-chunk : goal.invariant-loop-chunk
invariant-loop-chunk g l = string_bytes l.text ++ escaped_bytes (utf8_chunks_rest l.chunk-iterator) ≡ escaped_bytes l.fn.name
