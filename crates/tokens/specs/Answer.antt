-- The result of a run.
use Rattle.std.specs.Prelude.{Bool, true, false, Result, Ok, Err}
use Rattle.tokens.specs.declared.errors.RunError.{RunError}
use Rattle.tokens.specs.declared.errors.RunError.TheVariants.{Io, NotUtf8, MapFull, Lex, Memory}

-- whether the error is that a read or a write failed
abbrev pub is_io : {T : Type 0} → Result T RunError → Bool
is_io (Ok x) = false
is_io (Err Io) = true
is_io (Err NotUtf8) = false
is_io (Err MapFull) = false
is_io (Err (Lex start)) = false
is_io (Err (Memory error)) = false

-- whether the result depends on the whole input
abbrev pub is_on_input : {T : Type 0} → Result T RunError → Bool
is_on_input (Ok x) = true
is_on_input (Err Io) = false
is_on_input (Err NotUtf8) = true
is_on_input (Err MapFull) = true
is_on_input (Err (Lex start)) = true
is_on_input (Err (Memory error)) = false

-- the result is one that a read to the end of the source may have
abbrev pub IsReadAnswer : {T : Type 0} → Result T RunError → Type 0
IsReadAnswer (Ok x) = Unit {0}
IsReadAnswer (Err Io) = Unit {0}
IsReadAnswer (Err NotUtf8) = ⊥
IsReadAnswer (Err MapFull) = ⊥
IsReadAnswer (Err (Lex start)) = ⊥
IsReadAnswer (Err (Memory error)) = Unit {0}
