-- What is left to find of the calls.
use Rattle.std.proofs.Common.{◌≡◌, ℕ, zero, suc, ◌+◌, ◌<◌, ◌≤◌, Bool, true, false, not, ◌&&◌, List, [], ◌∷◌}
use Rattle.std.proofs.Common.{◌++◌, drop, length}
use Rattle.std.proofs.Common.{Option, Some, None, refl, sym, ap, ap₂, subst, ◌∙◌, arith, get_or, ◌==◌, ne_eqb}
use Rattle.std.proofs.Common.{if◌then◌else◌}
use Rattle.std.proofs.Math.Seq.{drop-cons}
use Rattle.std.proofs.KnownBytes.{Appends-nil}
use Rattle.std.specs.Io.KnownBytes.{Appends}
use Rattle.std.specs.List.{AllByRecursion as Each}
use Rattle.std.specs.Option.{option_to_list}
use Rattle.lexical.specs.Token.{Token, Name, Mark, Literal}
use Rattle.pm_span.specs.Extent.{Extent}
use Rattle.std.specs.declared.alloc.AllocError.{AllocError}
use Rattle.pm_span.specs.Files.{Files, Fits, Holds, new_map, next_lo, with_file}
use Rattle.pm_stream.specs.Forest.{Forest, nil, leaf, group}
use Rattle.pm_stream.specs.InOrder.{token_tree, in_order}
use Rattle.pm_stream.specs.Parsing.{ParsesTo}
use Rattle.pm_stream.specs.TreeSpan.{extent_of}
use Rattle.pm_stream.proofs.InOrderLemmas.{each_parts}
use Rattle.pm_stream.proofs.LineColumnLemmas.{parsed_line_columns}
use Rattle.token_buffer.specs.Refused.{IfParse}
use Rattle.token_buffer.specs.declared.errors.BufferError.{BufferError}
use Rattle.token_buffer.specs.declared.errors.BufferError.TheVariants.{Parse}
use Rattle.proc_macro2.specs.declared.LineColumn.{LineColumn}
use Rattle.pm_span.specs.Lookup.{StartsAt}
use Rattle.pm_token.specs.Outcome.{IfLex}
use Rattle.pm_token.specs.declared.errors.ParseError.{ParseError}
use Rattle.pm_token.specs.declared.errors.ParseError.TheVariants.{Lex, MapFull, Memory}
use Rattle.pm_stream.specs.Parsing.{FaultAt}
use Rattle.pm_stream.proofs.FaultLemmas.{fault_held}
use Rattle.pm_stream.proofs.LineColumnLemmas.{fault_starts}
use Rattle.messages.specs.Parsed.{MayFail}
use Rattle.messages.specs.declared.errors.Failure.{Failure}
use Rattle.messages.specs.declared.errors.Failure.TheVariants.{Fault, MapFull as TooLong, Memory as NoMemory}
use Rattle.messages.proofs.ParsedLemmas.{Keeps-same}
use Rattle.find_calls.specs.Answer.{StartsIn, are_some, lines}
use Rattle.find_calls.specs.Calls.{calls, calls_onto, is_called, is_fn, is_named}

-- ---- where they start

-- the spans of calls are spans of trees
module _ (P : Extent → Type 0) where
  token_extent : (token : Token) (lo hi : ℕ) → P (extent_of (token_tree token lo hi)) → P (record { lo = lo; hi = hi })
  token_extent (Name raw name) lo hi h = h
  token_extent (Mark c joint) lo hi h = h
  token_extent (Literal text) lo hi h = h

  each_put : (is : Bool) (span : Extent) (spans : List Extent) → P span → Each P spans
      → Each P (option_to_list (if is then Some span else None) ++ spans)
  each_put true span spans h all = (h, all)
  each_put false span spans h all = all

  each_call : (name : List ℕ) (defined : Bool) (f : Forest) (more : List Extent)
      → Each (λ tree. P (extent_of tree)) (in_order f) → Each P more → Each P (calls_onto name defined f more)
  each_call name defined nil more h all = all
  each_call name defined (leaf token lo hi f) more h all =
      each_put (is_named name token && (not defined && is_called f)) (record { lo = lo; hi = hi }) _
      (token_extent token lo hi h.0) (each_call name (is_fn token) f more h.1 all)
  each_call name defined (group d lo hi f k) more h all =
      let parts = each_parts (λ tree. P (extent_of tree)) f (in_order k) h.1 in
      each_call name false f (calls_onto name false k more) parts.0 (each_call name false k more parts.1 all)

-- the map of the text alone holds the span, and it starts at its line and column
abbrev pub IsHeld : List ℕ → Extent → Type 0
IsHeld text span = Holds (with_file new_map text) span × StartsIn (with_file new_map text) text span

pub calls_held : (name text : List ℕ) (stream : Forest) → ParsesTo (next_lo new_map) text stream
    → Each (IsHeld text) (calls name stream)
calls_held name text stream parses =
    each_call (IsHeld text) name false stream [] (parsed_line_columns text stream parses) tt

each_both : (A B : Extent → Type 0) (spans : List Extent) → Each (λ s. A s × B s) spans → Each A spans × Each B spans
each_both A B [] h = (tt, tt)
each_both A B (span ∷ spans) h = let more = each_both A B spans h.1 in ((h.0.0, more.0), (h.0.1, more.1))

pub both_held : (name text : List ℕ) (stream : Forest) → ParsesTo (next_lo new_map) text stream
    → Each (Holds (with_file new_map text)) (calls name stream)
    × Each (StartsIn (with_file new_map text) text) (calls name stream)
both_held name text stream parses =
    each_both (Holds (with_file new_map text)) (StartsIn (with_file new_map text) text) (calls name stream)
    (calls_held name text stream parses)

-- ---- what is written

pub drop_first : (spans : List Extent) (n : ℕ) (span : Extent) → n < length spans → span ≡ get_or spans n span
    → drop n spans ≡ span ∷ drop (n + 1) spans
drop_first spans n span fits is =
    let next : suc n ≡ n + 1 = omega arith in
    drop-cons spans n span fits ∙ ap₂ (λ x k. x ∷ drop k spans) (sym is) next

drop_past : (spans : List Extent) (n : ℕ) → length spans ≤ n → drop n spans ≡ []
drop_past [] zero past = refl
drop_past [] (suc n) past = refl
drop_past (span ∷ spans) zero past = absurd (omega (arith, past))
drop_past (span ∷ spans) (suc n) past = drop_past spans n (omega (arith, past))

-- no more is written where no call is left
pub written_nothing : (old new : Option (List ℕ)) (path text : List ℕ) (spans : List Extent) (n : ℕ)
    → length spans ≤ n
    → ((end : Option (List ℕ)) → Appends new end (lines path text (drop n spans))
    → Appends old end (lines path text spans))
    → Appends old new (lines path text spans)
written_nothing old new path text spans n past h =
    h new (rw (drop_past spans n past) (Appends-nil new))

pub some_if : (spans : List Extent) (empty : Bool) → empty ≡ (length spans == 0) → not empty ≡ are_some spans
some_if [] empty is = ap not is
some_if (span ∷ spans) empty is =
    ap not (is ∙ ne_eqb (length (span ∷ spans)) 0 (λ clash. omega (arith, clash)))

-- ---- a text that wasn't read

-- what the buffer's error says of the text's
pub lex_of : (failure : BufferError) (error : ParseError) → failure ≡ Parse error → (P : Extent → Type 0)
    → IfParse failure (λ parse. IfLex parse P) → IfLex error P
lex_of failure error is P h = subst (λ e. IfParse e (λ parse. IfLex parse P)) is h

-- the map of the text holds its fault
pub fault_is_held : (map : Files) (text : List ℕ) (error : ParseError) → map ≡ with_file new_map text
    → IfLex error (λ fault. (fault.lo ≡ fault.hi) × FaultAt (next_lo new_map) text fault.lo) → IfLex error (Holds map)
fault_is_held map text (Lex fault) is h = subst (λ m. Holds m fault) (sym is) (fault_held new_map text fault h.0 h.1)
fault_is_held map text MapFull is h = tt
fault_is_held map text (Memory refused) is h = tt

-- and so what is said of it may be said
pub unread_may_fail : (text : List ℕ) (known : Option (List ℕ)) (map : Files) (error : ParseError) (failure : Failure)
    → map ≡ with_file new_map text
    → IfLex error (λ fault. (fault.lo ≡ fault.hi) × FaultAt (next_lo new_map) text fault.lo)
    → (error ≡ MapFull → Fits new_map (length text) → ⊥)
    → IfLex error (λ fault. (start : LineColumn) × (failure ≡ Fault start) × StartsAt map fault start)
    → (error ≡ MapFull → failure ≡ TooLong) → ((refused : AllocError) → error ≡ Memory refused → failure ≡ NoMemory)
    → MayFail text known known failure
unread_may_fail text known map (Lex fault) failure is stands full (start, lex_fault, starts) too_long no_memory =
    rw lex_fault (fault.lo, stands.1, fault_starts new_map map text fault start is stands starts, Keeps-same known)
unread_may_fail text known map MapFull failure is stands full lex_fault too_long no_memory =
    rw (too_long refl) (full refl, Keeps-same known)
unread_may_fail text known map (Memory refused) failure is stands full lex_fault too_long no_memory =
    rw (no_memory refused refl) tt
