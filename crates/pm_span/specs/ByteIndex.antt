-- What the index of byte offsets contains.
use Rattle.std.specs.Prelude.{ℕ, ◌+◌, ◌*◌, ◌^◌, ◌<◌, ◌≤◌, ◌≡◌, List, length, slice_index}
use Rattle.pm_span.specs.CharOffset.{byte_offset}

-- whether `char_offset` is an offset of the text, with this number of bytes before it
pub record IsByteOffset (text : List ℕ) (char_offset bytes : ℕ) : Type 0 where
  pub within : char_offset ≤ length text
  pub value : bytes ≡ byte_offset text char_offset

-- whether `ends` lists, in order, the byte offset at which each full block of 64 characters ends
pub record AreBlockEnds (text ends : List ℕ) : Type 0 where
  pub each : (block : ℕ) → block < length ends → IsByteOffset text (64 * (block + 1)) (slice_index ends block)
  pub all : length text < 64 * (length ends + 1)

-- whether `count` is the number of the text's characters, and `ends` are the ends of its blocks
pub record IsByteIndex (text : List ℕ) (count : ℕ) (ends : List ℕ) : Type 0 where
  pub size : count ≡ length text
  pub fits : count < 2 ^ 32
  pub blocks : AreBlockEnds text ends
