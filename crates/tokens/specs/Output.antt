-- The output for an input, and its errors.
use Rattle.std.specs.Prelude.{ℕ, ◌+◌, ◌≡◌, List, ◌++◌, length, codes, flat_map, string_bytes}
use Rattle.std.specs.Str.{chars, IsUtf8, encode_utf8_all}
use Rattle.proc_macro2.specs.declared.LineColumn.{LineColumn}
use Rattle.proc_macro2.specs.Files.{Fits, new_map, next_lo}
use Rattle.proc_macro2.specs.CharOffset.{line_column}
use Rattle.proc_macro2.specs.Forest.{Forest}
use Rattle.proc_macro2.specs.InOrder.{in_order}
use Rattle.proc_macro2.specs.Parsing.{ParsesTo, FaultAt}
use Rattle.proc_macro2.specs.Printed.{printed}
use Rattle.tokens.specs.declared.mode.OutputMode.{OutputMode}
use Rattle.tokens.specs.declared.mode.OutputMode.TheVariants.{Print, Spans}
use Rattle.tokens.specs.declared.output.RunOutput.{RunOutput}
use Rattle.tokens.specs.declared.output.RunOutput.TheVariants.{Text, Trees}
use Rattle.tokens.specs.Spans.{span_line, tree_line}

-- the bytes that are written for a stream to which the source parses: with `Print` its printed text and a line feed,
-- with `Spans` a line for each tree, where a group comes before the trees inside it
abbrev pub stream_bytes : OutputMode → List ℕ → Forest → List ℕ
stream_bytes Print source stream = encode_utf8_all (printed stream) ++ codes "\n"
stream_bytes Spans source stream = flat_map (span_line source) (in_order stream)

-- `output`: the bytes are what is written for the stream to which the input parses
pub record IsOutput (mode : OutputMode) (input bytes : List ℕ) : Type 0 where
  pub text : IsUtf8 input
  pub stream : Forest
  pub parses : ParsesTo (next_lo new_map) (chars input) stream
  pub writes : bytes ≡ stream_bytes mode (chars input) stream

-- the bytes of an output
abbrev pub output_bytes : RunOutput → List ℕ
output_bytes (Text text) = string_bytes text
output_bytes (Trees trees) = flat_map tree_line trees.items

-- the output is what is written for the stream to which the source parses
pub record IsOutputOf (mode : OutputMode) (source : List ℕ) (output : RunOutput) : Type 0 where
  pub stream : Forest
  pub parses : ParsesTo (next_lo new_map) source stream
  pub writes : output_bytes output ≡ stream_bytes mode source stream

-- the input is text that is too long for a new map
pub record IsTooLong (input : List ℕ) : Type 0 where
  pub text : IsUtf8 input
  pub long : ¬ Fits new_map (length (chars input))

-- the input is text that fits a new map
pub record IsReadable (input : List ℕ) : Type 0 where
  pub text : IsUtf8 input
  pub fits : Fits new_map (length (chars input))

-- the input's syntax error is at this line and column, after `before` of its characters
pub record HasFaultAt (input : List ℕ) (start : LineColumn) : Type 0 where
  pub text : IsUtf8 input
  pub before : ℕ
  pub fault : FaultAt (next_lo new_map) (chars input) (next_lo new_map + before)
  pub at : start ≡ line_column (chars input) before
