-- What a run does.
use Rattle.std.specs.Prelude.{ℕ, Bool, ◌≡◌, ◌⊎◌, List, Option, IfSome, Result, Err, OnOk, OnErr, IsTrue, IsFalse}
use Rattle.std.specs.Io.KnownBytes.{Appends, Keeps}
use Rattle.std.specs.Str.{IsUtf8}
use Rattle.proc_macro2.specs.declared.LineColumn.{LineColumn}
use Rattle.tokens.specs.declared.errors.RunError.{RunError}
use Rattle.tokens.specs.declared.errors.RunError.TheVariants.{NotUtf8, MapFull, Lex}
use Rattle.tokens.specs.declared.mode.OutputMode.{OutputMode}
use Rattle.tokens.specs.Answer.{is_io, is_on_input}
use Rattle.tokens.specs.Known.{IsReadOut, AppendsFront}
use Rattle.tokens.specs.Output.{IsOutput, IsTooLong, HasFaultAt}

-- what is known about a run's source and sink
pub record Seen : Type 0 where
  -- the bytes that the source has left, if they are known
  pub left : Option (List ℕ)
  pub read_failed : Bool
  -- the bytes that the sink holds, if they are known
  pub held : Option (List ℕ)
  pub write_failed : Bool

-- what is known about a source and a sink, by the functions of their traits
abbrev pub seen_by : {R W : Type 0} → (R → Option (List ℕ)) → (R → Bool) → (W → Option (List ℕ)) → (W → Bool)
    → R → W → Seen
seen_by left read_failed held write_failed reader writer =
    record {
      left = left reader;
      read_failed = read_failed reader;
      held = held writer;
      write_failed = write_failed writer;
    }

-- the output for the input was appended to the sink
pub record WritesOutput (mode : OutputMode) (old new : Seen) (input : List ℕ) : Type 0 where
  pub output : List ℕ
  pub is : IsOutput mode input output
  pub appends : Appends old.held new.held output

-- a prefix of the output for the input was appended to the sink
pub record WritesFront (mode : OutputMode) (old new : Seen) (input : List ℕ) : Type 0 where
  pub output : List ℕ
  pub is : IsOutput mode input output
  pub appends : AppendsFront old.held new.held output

-- a read failed, and nothing was written
pub record FailsToRead (old new : Seen) : Type 0 where
  pub failed : IsTrue new.read_failed
  pub write_failed : new.write_failed ≡ old.write_failed
  pub kept : Keeps old.held new.held

-- the whole input was read, a write failed or took no bytes, and a prefix of the output was written
pub record FailsToWrite (mode : OutputMode) (old new : Seen) : Type 0 where
  pub read : IsReadOut old.left new.left
  pub read_failed : new.read_failed ≡ old.read_failed
  pub failed : IsTrue new.write_failed
  pub front : IfSome old.left (WritesFront mode old new)

-- the source's bytes, if they are known, decide the result, what is written, and what is known about source and sink
-- afterwards
pub record Runs (mode : OutputMode) (old : Seen) (answer : Result Unit RunError) (new : Seen) : Type 0 where
  pub ok : OnOk answer (IfSome old.left (WritesOutput mode old new))
  pub io : IsTrue (is_io answer) → FailsToRead old new ⊎ FailsToWrite mode old new
  pub not_utf8 : answer ≡ Err NotUtf8 → IfSome old.left (λ input. ¬ IsUtf8 input)
  pub map_full : answer ≡ Err MapFull → IfSome old.left IsTooLong
  pub lex : (start : LineColumn) → answer ≡ Err (Lex start) → IfSome old.left (λ input. HasFaultAt input start)
  pub read : IsTrue (is_on_input answer) → IsReadOut old.left new.left
  pub unwritten : OnErr answer (IsFalse (is_io answer) → Keeps old.held new.held)
  pub flags : IsFalse (is_io answer) → (new.read_failed ≡ old.read_failed) × (new.write_failed ≡ old.write_failed)
