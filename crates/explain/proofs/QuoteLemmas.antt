-- Where no piece begins that has quotes or begins with a name.
use Rattle.std.proofs.Common.{◌≡◌, ℕ, ◌<◌, Bool, true, false, List, [], ◌∷◌, ◌++◌, codes}
use Rattle.std.proofs.Common.{length}
use Rattle.std.proofs.Common.{Some, None, refl, sym, ap, ◌∙◌, subst, arith, eqb-true}
use Rattle.std.specs.Char.{is_ascii_digit}
use Rattle.std.specs.Str.{chars}
use Rattle.std.specs.Prelude.{nat_lt}
use Rattle.std.proofs.Common.{length-append}
use Rattle.std.proofs.lemmas.Bool.{both_ways, eq-eqb, and_from, or_from, false_from_ne_true, lt-ltb}
use Rattle.std.proofs.lemmas.List.{append_cancel_right}
use Rattle.lexical.specs.Class.{is_ident_start, is_ident_continue}
use Rattle.lexical.specs.Finder.{Answer, and_find, and_next, prepend, find_run, find_one}
use Rattle.lexical.specs.Identifier.{name, is_reserved}
use Rattle.lexical.specs.Quoted.{front as string_front}
use Rattle.lexical.specs.RawString.{raw_front}
use Rattle.lexical.specs.Rule.{Rule, One, Run, Exactly, Then, Next, NotBefore, find}
use Rattle.lexical.specs.RuleMatch.{Passes}
use Rattle.lexical.specs.Text.{begins_with, first_passes}
use Rattle.lexical.specs.declared.cursor.TextCursor.{TextCursor}
use Rattle.lexical.specs.declared.quoted.StringKind.{StringKind}
use Rattle.lexical.proofs.RuleLemmas.{Clear}
use Rattle.lexical.proofs.RuleSteps.{passes_piece, past_text, then_passes, then_reads, then_lacks, text_lacks}
use Rattle.lexical.proofs.RuleSteps.{lacks_text}
use Rattle.lexical.proofs.RuleSteps.{either_first, either_reads, before_passes, where_passes, find_not_before}
use Rattle.explain.specs.Shapes.{bars_character, closed_body, closed_raw, closed_raw_body, closed_single}
use Rattle.explain.specs.Shapes.{closed_single_body}
use Rattle.explain.specs.Shapes.{closed_string, digit_lifetime, hashed_front, is_hash, is_quote, lifetime, long_opening}
use Rattle.explain.specs.Shapes.{no_double_quote, raw_lifetime_start, raw_name_start, raw_opening, reserved_raw}
use Rattle.explain.specs.Shapes.{single_opening}
use Rattle.explain.specs.Trouble.{IsTrouble}
use Rattle.explain.specs.declared.reason.Reason.TheVariants.{UnclosedString, UnclosedRawString, TooManyHashes}
use Rattle.explain.specs.declared.reason.Reason.TheVariants.{HashesWithoutQuote, ReservedRawName, UnclosedCharacter}
use Rattle.explain.specs.declared.reason.Reason.TheVariants.{DigitLifetime, HashAfterLifetime}
use Rattle.explain.proofs.NumberLemmas.{one_none}
use Rattle.explain.proofs.ScanLemmas.{clear_raw, none_stands}
use Rattle.explain.proofs.TroubleLemmas.{trouble, trouble_here}

-- ---- strings

pub unclosed_string : (kind : StringKind) (at inside : TextCursor) → Passes (Exactly (string_front kind)) at inside
    → find closed_body (chars inside.rest.now) ≡ None
    → IsTrouble at (record { reason = UnclosedString; at = at; after = inside })
unclosed_string kind at inside h none =
    trouble_here (Exactly (string_front kind)) tt at inside UnclosedString h
    (λ front part whole is. (
      kind,
      is,
      none_stands (closed_string kind) (assumption) _ front part _
          (then_reads (Exactly (string_front kind)) closed_body at inside None h none) whole,
    ))

-- ---- raw strings

abbrev quotes : List ℕ → Rule
quotes hashes = Then (Exactly (codes "\"")) (closed_raw_body hashes)

pub clear_closed : (kind : StringKind) → Clear (closed_raw kind)
clear_closed kind = (tt, (tt, λ hashes. (tt, clear_raw hashes)))

next_passes : (rule : List ℕ → Rule) (at mid to : TextCursor) (run : Passes (Run is_hash) at mid)
    → Passes (rule run.front) mid to → Passes (Next (Run is_hash) rule) at to
unfolding find
next_passes rule at mid to run j =
    let long = length-append run.front j.front in
    record {
      front = run.front ++ j.front;
      found = ap (and_next (λ hashes. find (rule hashes))) run.found ∙ ap (prepend run.front) j.found;
      count = omega (arith, run.count, j.count);
    }

module _ (kind : StringKind) (at inside quote body : TextCursor) (letters : Passes (Exactly (raw_front kind)) at inside)
    (run : Passes (Run is_hash) inside quote) (opens : Passes (Exactly (codes "\"")) quote body) where
  raw_none : find (closed_raw_body run.front) (chars body.rest.now) ≡ None
      → find (closed_raw kind) (chars at.rest.now) ≡ None
  unfolding find
  raw_none none =
      then_reads (Exactly (raw_front kind)) (Next (Run is_hash) quotes) at inside None letters
      (ap (and_next (λ hashes. find (quotes hashes))) run.found
      ∙ ap (prepend run.front) (then_reads (Exactly (codes "\""))
      (closed_raw_body run.front) quote body None opens none))

  pub raw_some : (end : TextCursor) → Passes (closed_raw_body run.front) body end → Passes (closed_raw kind) at end
  raw_some end h =
      then_passes (Exactly (raw_front kind)) (Next (Run is_hash) quotes) at inside end letters
      (next_passes quotes inside quote end run (then_passes (Exactly (codes "\""))
      (closed_raw_body run.front) quote body end opens h))

  pub unclosed_raw : (hashes : List ℕ) → hashes ≡ run.front → find (closed_raw_body hashes) (chars body.rest.now) ≡ None
      → IsTrouble at (record { reason = UnclosedRawString; at = at; after = body })
  unclosed_raw hashes same none =
      trouble_here (raw_opening kind) (assumption) at body UnclosedRawString
      (then_passes _ _ at inside body letters (then_passes _ _ inside quote body run opens))
      (λ front part whole is. (
        kind,
        is,
        none_stands (closed_raw kind) (clear_closed kind) _ front part _
            (raw_none (subst (λ h. find (closed_raw_body h) (chars body.rest.now) ≡ None) same none)) whole,
      ))

  pub too_many : (hashes : List ℕ) (end : TextCursor) → hashes ≡ run.front → 255 < length hashes
      → Passes (closed_raw_body hashes) body end
      → IsTrouble at (record { reason = TooManyHashes; at = at; after = body })
  too_many hashes end same many h =
      trouble_here (long_opening kind) (assumption) at body TooManyHashes
      (then_passes _ _ at inside body letters (then_passes _ _ inside quote body
      (where_passes (λ hashes. nat_lt 255 (length hashes)) (Run is_hash) tt inside quote run.front run
      (λ front e. append_cancel_right run.front front (chars quote.rest.now)
      (sym (passes_piece (Run is_hash) tt inside quote run).0 ∙ e))
      (lt-ltb 255 (length run.front) (omega (arith, ap length same, many)))) opens))
      (λ front part whole is. (
        kind,
        is,
        λ none.
            let all = passes_piece (closed_raw kind) (clear_closed kind) at end
            (raw_some end (subst (λ h. Passes (closed_raw_body h) body end) same h)) in
            none _ _ (sym whole ∙ all.0) all.1,
      ))

pub without_quote : (kind : StringKind) (at inside end after : TextCursor)
    → Passes (Exactly (raw_front kind)) at inside → Passes (Then (One is_hash) (Run is_hash)) inside end
    → Passes no_double_quote end after → find raw_name_start (chars at.rest.now) ≡ None
    → IsTrouble at (record { reason = HashesWithoutQuote; at = end; after = after })
without_quote kind at inside end after letters signs other none =
    trouble (hashed_front kind) no_double_quote (assumption) (assumption) at end after HashesWithoutQuote
    (then_passes _ _ at inside end letters signs) other
    (λ front part whole is. (kind, is, none_stands raw_name_start (assumption) _ front part _ none whole))

-- ---- names

pub name_none : (text : List ℕ) → find name text ≡ None → find (One is_ident_start) text ≡ None
unfolding find
name_none text e = by_first (find_one is_ident_start text) e
  where
    by_first : (o : Answer) → and_find (find_run is_ident_continue) o ≡ None → o ≡ None
    by_first None e = refl
    by_first (Some x) e = absurd (cc)

pub no_raw_name : (at inner : TextCursor) → Passes (Exactly (codes "r#")) at inner
    → find name (chars inner.rest.now) ≡ None
    → find raw_name_start (chars at.rest.now) ≡ None
no_raw_name at inner h none =
    then_reads (Exactly (codes "r#")) (One is_ident_start) at inner None h (name_none _ none)

pub no_raw_lifetime : (at inner : TextCursor) → Passes (Exactly (codes "'r#")) at inner
    → find name (chars inner.rest.now) ≡ None → find raw_lifetime_start (chars at.rest.now) ≡ None
no_raw_lifetime at inner h none =
    then_reads (Exactly (codes "'r#")) (One is_ident_start) at inner None h (name_none _ none)

pub reserved_name : (at inner end : TextCursor) → Passes (Exactly (codes "r#")) at inner
    → (named : Passes name inner end) → is_reserved named.front ≡ true
    → IsTrouble at (record { reason = ReservedRawName; at = at; after = end })
reserved_name at inner end h named reserved =
    trouble_here reserved_raw (assumption) at end ReservedRawName
    (either_first _ _ at end (then_passes _ _ at inner end h
    (where_passes is_reserved name (assumption) inner end named.front named
    (λ front e. append_cancel_right named.front front (chars end.rest.now)
    (sym (passes_piece name (assumption) inner end named).0 ∙ e)) reserved)))
    (λ front part whole is. is)

quote_none : (text : List ℕ) → find (Exactly (codes "'")) text ≡ None → first_passes is_quote text ≡ false
quote_none [] e = refl
quote_none (c ∷ text) e = false_from_ne_true _ (λ is.
    both_ways _ (lacks_text (codes "'") (c ∷ text) e) (and_from _ _ (eq-eqb 39 c (sym (eqb-true c 39 is))) refl))

pub reserved_lifetime : (at inner end : TextCursor) → Passes (Exactly (codes "'r#")) at inner
    → (named : Passes name inner end) → is_reserved named.front ≡ true
    → find (Exactly (codes "'")) (chars end.rest.now) ≡ None
    → IsTrouble at (record { reason = ReservedRawName; at = at; after = end })
reserved_lifetime at inner end h named reserved none =
    trouble_here reserved_raw (assumption) at end ReservedRawName
    (either_reads _ _ at (Some end)
    (then_lacks _ _ _ (text_lacks (codes "r#") _
    (subst (λ t. begins_with (codes "r#") t ≡ false) (sym (past_text (codes "'r#") at inner h).0) refl)))
    (before_passes is_quote _ at end (then_passes _ _ at inner end h
    (where_passes is_reserved name (assumption) inner end named.front named
    (λ front e. append_cancel_right named.front front (chars end.rest.now)
    (sym (passes_piece name (assumption) inner end named).0 ∙ e)) reserved)) (quote_none _ none)))
    (λ front part whole is. is)

-- ---- characters and lifetimes

pub hash_after : (at inside end after : TextCursor) → Passes (Exactly (codes "'")) at inside → Passes name inside end
    → Passes (Exactly (codes "#")) end after → find raw_lifetime_start (chars at.rest.now) ≡ None
    → IsTrouble at (record { reason = HashAfterLifetime; at = end; after = after })
hash_after at inside end after h named hash none =
    trouble lifetime (Exactly (codes "#")) (assumption) tt at end after HashAfterLifetime
    (then_passes _ _ at inside end h named) hash
    (λ front part whole is. (is, none_stands raw_lifetime_start (assumption) _ front part _ none whole))

pub from_digit : (at inside first end : TextCursor) → Passes (Exactly (codes "'")) at inside
    → Passes (One is_ascii_digit) inside first → Passes (Run is_ident_continue) first end
    → find (Exactly (codes "'")) (chars end.rest.now) ≡ None
    → IsTrouble at (record { reason = DigitLifetime; at = at; after = end })
from_digit at inside first end h digit run none =
    trouble_here digit_lifetime (assumption) at end DigitLifetime
    (before_passes is_quote _ at end (then_passes _ _ at inside end h (then_passes _ _ inside first end digit run))
    (quote_none _ none))
    (λ front part whole is. is)

pub opens_single : (at inside : TextCursor) → Passes (Exactly (codes "'")) at inside
    → find name (chars inside.rest.now) ≡ None → find (One is_ascii_digit) (chars inside.rest.now) ≡ None
    → Passes single_opening at inside
opens_single at inside h named digit =
    either_first _ _ at inside (before_passes bars_character (Exactly (codes "'")) at inside h
    (both_none (chars inside.rest.now) (one_none is_ident_start _ (name_none _ named))
    (one_none is_ascii_digit _ digit)))
  where
    both_none : (text : List ℕ) → first_passes is_ident_start text ≡ false → first_passes is_ascii_digit text ≡ false
        → first_passes bars_character text ≡ false
    both_none [] a b = refl
    both_none (c ∷ text) a b = or_from _ _ a b

pub opens_byte : (at inside : TextCursor) → Passes (Exactly (codes "b'")) at inside → Passes single_opening at inside
opens_byte at inside h =
    either_reads _ _ at (Some inside)
    (before_none _ _ (text_lacks (codes "'") _
    (subst (λ t. begins_with (codes "'") t ≡ false) (sym (past_text (codes "b'") at inside h).0) refl)))
    h
  where
    before_none : (passes : ℕ → Bool) (text : List ℕ) → find (Exactly (codes "'")) text ≡ None
        → find (NotBefore passes (Exactly (codes "'"))) text ≡ None
    before_none passes text none = rw (find_not_before, none)

pub unclosed_single : (at inside : TextCursor) → Passes single_opening at inside
    → find closed_single_body (chars inside.rest.now) ≡ None
    → IsTrouble at (record { reason = UnclosedCharacter; at = at; after = inside })
unclosed_single at inside h none =
    trouble_here single_opening (assumption) at inside UnclosedCharacter h
    (λ front part whole is. (
      is,
      none_stands closed_single (assumption) _ front part _
          (then_reads single_opening closed_single_body at inside None h none) whole,
    ))
