-- Where a reason of a string or a raw string holds, no piece begins.
use Rattle.std.proofs.Common.{◌≡◌, ℕ, ◌<◌, ◌≤◌, Bool, true, false, not, ◌==◌, List, [], ◌∷◌, ◌++◌, codes}
use Rattle.std.proofs.Common.{◌⊎◌, length, Result, Ok, Err, None, inl, inr, refl, sym, ap, ap₂, ◌∙◌, subst, arith}
use Rattle.std.proofs.Common.{append_assoc}
use Rattle.std.proofs.Common.{eqb-true, ltb-true, leb-true}
use Rattle.std.specs.List.{concat, list_all}
use Rattle.std.proofs.lemmas.Bool.{and_parts, both_ways, or_left}
use Rattle.lexical.specs.Class.{is_ident_start}
use Rattle.lexical.specs.Form.{Each, HasNone, Many}
use Rattle.lexical.specs.Identifier.{identifier, is_reserved, literal_prefixes, name, raw_name}
use Rattle.lexical.specs.Literal.{quoted_literal}
use Rattle.lexical.specs.PieceFinder.{find_piece, literal_kind, name_kind, or_found, and_kind}
use Rattle.lexical.specs.Quoted.{cooked_string, front as string_front, unit}
use Rattle.lexical.specs.RawString.{may_stand_raw, raw_front, raw_string}
use Rattle.lexical.specs.RawString as raw_strings
use Rattle.lexical.specs.Rule.{Rule, Exactly, Then, Where, Stands, find}
use Rattle.lexical.specs.SingleQuoted.{byte, character}
use Rattle.lexical.specs.Text.{begins_any, begins_with, first_passes}
use Rattle.lexical.specs.declared.class.PieceStart.TheVariants as starts
use Rattle.lexical.specs.declared.quoted.StringKind.{StringKind}
use Rattle.lexical.specs.declared.quoted.StringKind.TheVariants as kinds
use Rattle.lexical.proofs.AnswerLemmas.{at_start}
use Rattle.lexical.proofs.ClassLemmas.{ident_start_ascii, start_double_quote, start_letter}
use Rattle.lexical.proofs.FinderLemmas.{none_is}
use Rattle.lexical.proofs.NameFinderLemmas.{clear_written}
use Rattle.lexical.proofs.QuotedFinderLemmas.{clear_body, clear_quoted, clear_raw_body, each_kind}
use Rattle.lexical.proofs.TextLemmas.{begins_front}
use Rattle.lexical.proofs.RuleLemmas.{bars_sound, bars, exact, none_found, one_split}
use Rattle.literal_escaper.specs.declared.errors.EscapeError.{EscapeError}
use Rattle.explain.specs.Content.{IsBadRaw, IsBadString, StringFault, raw_character}
use Rattle.explain.specs.Reason.{Begins, Follow, Lacks}
use Rattle.explain.specs.Shapes.{closed_raw, closed_string, hashed_front, is_hash, long_opening, no_double_quote}
use Rattle.explain.specs.Shapes.{raw_name_start, raw_opening}
use Rattle.explain.specs.Shapes as shapes
use Rattle.explain.proofs.OneContentLemmas.{IsPlace, many_stop, no_raw_unit, place_of, raw_place_of, raw_taken}
use Rattle.explain.proofs.OneContentLemmas.{string_cancel}
use Rattle.explain.proofs.PairedLemmas.{Paired, pairs_of, units_paired}
use Rattle.explain.proofs.StringLemmas.{no_unit}
use Rattle.explain.proofs.TextReasonLemmas.{IsSigned, at_front, hashed_signed, long_opens, one_signed}
use Rattle.explain.proofs.TextReasonLemmas.{opening_signed, reserved_signed}

-- ---- where no literal with quotes begins

pub record Unquoted (text : List ℕ) : Type 0 where
  pub strings : (kind : StringKind) → HasNone (Stands (cooked_string kind)) text
  pub raw_strings : (kind : StringKind) → HasNone (Stands (raw_string kind)) text
  pub characters : HasNone (Stands character) text
  pub bytes : HasNone (Stands byte) text

pub unquoted_none : (text : List ℕ) → Unquoted text → find quoted_literal text ≡ None
unquoted_none text none = none_found quoted_literal clear_quoted text by_kind
  where
    by_kind : HasNone (Stands quoted_literal) text
    by_kind p r e (inl (inl is)) = none.strings kinds.Plain p r e is
    by_kind p r e (inl (inr is)) = none.raw_strings kinds.Plain p r e is
    by_kind p r e (inr (inl is)) = none.characters p r e is
    by_kind p r e (inr (inr (inl (inl is)))) = none.strings kinds.Byte p r e is
    by_kind p r e (inr (inr (inl (inr is)))) = none.raw_strings kinds.Byte p r e is
    by_kind p r e (inr (inr (inr (inl is)))) = none.bytes p r e is
    by_kind p r e (inr (inr (inr (inr (inl is))))) = none.strings kinds.C p r e is
    by_kind p r e (inr (inr (inr (inr (inr is))))) = none.raw_strings kinds.C p r e is

pub barred_here : (front rest text : List ℕ) → text ≡ front ++ rest → (rule : Rule) → bars front rule ≡ true
    → HasNone (Stands rule) text
barred_here front rest text e rule bar p r split is = bars_sound front rule bar rest p r is (sym split ∙ e)

module _ (front rest text : List ℕ) (e : text ≡ front ++ rest) where
  abbrev Barred : Rule → Type 0
  Barred rule = bars front rule ≡ true

  pub only_string : (kind : StringKind) → HasNone (Stands (cooked_string kind)) text
      → ((other : StringKind) → (other ≡ kind) ⊎ Barred (cooked_string other))
      → ((other : StringKind) → Barred (raw_string other))
      → Barred character → Barred byte → Unquoted text
  only_string kind none strings raw one two = record {
    strings = λ other. elim (strings other) [
      | inl same ↦ subst (λ k. HasNone (Stands (cooked_string k)) text) (sym same) none
      | inr bar ↦ barred_here front rest text e (cooked_string other) bar
    ];
    raw_strings = λ other. barred_here front rest text e (raw_string other) (raw other);
    characters = barred_here front rest text e character one;
    bytes = barred_here front rest text e byte two;
  }

  pub only_raw : (kind : StringKind) → HasNone (Stands (raw_string kind)) text
      → ((other : StringKind) → Barred (cooked_string other))
      → ((other : StringKind) → (other ≡ kind) ⊎ Barred (raw_string other))
      → Barred character → Barred byte → Unquoted text
  only_raw kind none strings raw one two = record {
    strings = λ other. barred_here front rest text e (cooked_string other) (strings other);
    raw_strings = λ other. elim (raw other) [
      | inl same ↦ subst (λ k. HasNone (Stands (raw_string k)) text) (sym same) none
      | inr bar ↦ barred_here front rest text e (raw_string other) bar
    ];
    characters = barred_here front rest text e character one;
    bytes = barred_here front rest text e byte two;
  }

string_unquoted : (kind : StringKind) (text rest : List ℕ) → text ≡ string_front kind ++ rest
    → HasNone (Stands (cooked_string kind)) text → Unquoted text
string_unquoted kinds.Plain text rest e none =
    only_string (codes "\"") rest text e kinds.Plain none
    (each_kind (λ k. (k ≡ kinds.Plain) ⊎ (bars (codes "\"") (cooked_string k) ≡ true)) (inl refl) (inr refl) (inr refl))
    (each_kind (λ k. bars (codes "\"") (raw_string k) ≡ true) refl refl refl) refl refl
string_unquoted kinds.Byte text rest e none =
    only_string (codes "b\"") rest text e kinds.Byte none
    (each_kind (λ k. (k ≡ kinds.Byte) ⊎ (bars (codes "b\"") (cooked_string k) ≡ true)) (inr refl) (inl refl) (inr refl))
    (each_kind (λ k. bars (codes "b\"") (raw_string k) ≡ true) refl refl refl) refl refl
string_unquoted kinds.C text rest e none =
    only_string (codes "c\"") rest text e kinds.C none
    (each_kind (λ k. (k ≡ kinds.C) ⊎ (bars (codes "c\"") (cooked_string k) ≡ true)) (inr refl) (inr refl) (inl refl))
    (each_kind (λ k. bars (codes "c\"") (raw_string k) ≡ true) refl refl refl) refl refl

raw_unquoted : (kind : StringKind) (text rest : List ℕ) → text ≡ raw_front kind ++ rest
    → HasNone (Stands (raw_string kind)) text → Unquoted text
raw_unquoted kinds.Plain text rest e none =
    only_raw (codes "r") rest text e kinds.Plain none
    (each_kind (λ k. bars (codes "r") (cooked_string k) ≡ true) refl refl refl)
    (each_kind (λ k. (k ≡ kinds.Plain) ⊎ (bars (codes "r") (raw_string k) ≡ true)) (inl refl) (inr refl) (inr refl))
    refl refl
raw_unquoted kinds.Byte text rest e none =
    only_raw (codes "br") rest text e kinds.Byte none
    (each_kind (λ k. bars (codes "br") (cooked_string k) ≡ true) refl refl refl)
    (each_kind (λ k. (k ≡ kinds.Byte) ⊎ (bars (codes "br") (raw_string k) ≡ true)) (inr refl) (inl refl) (inr refl))
    refl refl
raw_unquoted kinds.C text rest e none =
    only_raw (codes "cr") rest text e kinds.C none
    (each_kind (λ k. bars (codes "cr") (cooked_string k) ≡ true) refl refl refl)
    (each_kind (λ k. (k ≡ kinds.C) ⊎ (bars (codes "cr") (raw_string k) ≡ true)) (inr refl) (inr refl) (inl refl))
    refl refl

-- ---- texts that begin with a letter

pub letter_found : (first : Bool) (c : ℕ) (text rest : List ℕ) → text ≡ c ∷ rest → is_ident_start c ≡ true
    → find (identifier (begins_with (codes "r#") text)) text ≡ None → find quoted_literal text ≡ None
    → find_piece first text ≡ None
letter_found first c text rest e start none last =
    at_start first starts.Letter e (sym (start_letter c start))
    ∙ ap₂ (λ o u. or_found (and_kind (name_kind (begins_with (codes "r#") text)) o) (and_kind literal_kind u)) none last

-- the prefix of a literal begins no identifier
pub prefix_no_identifier : (text : List ℕ) (raw : Bool) → begins_any literal_prefixes text ≡ true
    → find (identifier raw) text ≡ None
prefix_no_identifier text raw h =
    none_found (identifier raw) (clear_written raw) text
    (λ p r e is. both_ways _ is.1 (ap (begins_any literal_prefixes) (sym e) ∙ h))

string_found : (first : Bool) (kind : StringKind) (text rest : List ℕ) → text ≡ string_front kind ++ rest
    → find quoted_literal text ≡ None → find_piece first text ≡ None
string_found first kinds.Plain text rest e none =
    at_start first starts.DoubleQuote e (sym start_double_quote) ∙ ap (and_kind literal_kind) none
string_found first kinds.Byte text rest e none =
    letter_found first 98 text (34 ∷ rest) e (ident_start_ascii 98 (omega arith))
    (prefix_no_identifier text _ (ap (begins_any literal_prefixes) e)) none
string_found first kinds.C text rest e none =
    letter_found first 99 text (34 ∷ rest) e (ident_start_ascii 99 (omega arith))
    (prefix_no_identifier text _ (ap (begins_any literal_prefixes) e)) none

-- ---- strings

-- a string is closed
cooked_closes : (kind : StringKind) (p r : List ℕ) → Stands (cooked_string kind) p r
    → (q : List ℕ) × (s : List ℕ) × (p ++ r ≡ q ++ s) × Stands (closed_string kind) q s
cooked_closes kind p r is =
    let body = is.second in
    let close = body.second in
    let many = body.first in
    let rest : List ℕ = close.back ++ r in
    let pairs = pairs_of body.front (codes "\"" ++ rest) (subst Paired (sym many.whole)
    (units_paired kind many.units (body.back ++ r) many.each)) in (
      string_front kind ++ (body.front ++ codes "\""),
      rest,
      ap (λ t. t ++ r) (is.whole ∙ ap₂ (λ a b. a ++ b) is.first (body.whole ∙ ap (λ t. body.front ++ t)
          (close.whole ∙ ap (λ t. t ++ close.back) close.first)))
          ∙ (append_assoc (string_front kind) (body.front ++ (codes "\"" ++ close.back)) r
          ∙ (ap (λ t. string_front kind ++ t) (append_assoc body.front (codes "\"" ++ close.back) r
          ∙ sym (append_assoc body.front (codes "\"") rest))
          ∙ sym (append_assoc (string_front kind) (body.front ++ codes "\"") rest))),
      record {
        front = string_front kind;
        back = body.front ++ codes "\"";
        whole = refl;
        first = refl;
        second = record {
          front = body.front;
          back = codes "\"";
          whole = refl;
          first = pairs;
          second = refl;
        };
      },
    )

pub unclosed_string_unfound : (first : Bool) (kind : StringKind) (f p r : List ℕ)
    → Begins (Exactly (string_front kind)) f p r → Lacks (closed_string kind) f p r
    → find_piece first (f ++ (p ++ r)) ≡ None
unclosed_string_unfound first kind f p r is none =
    let text : List ℕ = f ++ (p ++ r) in
    let e : text ≡ string_front kind ++ r = at_front f p r is.0 ∙ ap (λ t. t ++ r) is.1 in
    string_found first kind text r e
    (unquoted_none text (string_unquoted kind text r e (λ q s split stands.
    let closed = cooked_closes kind q s stands in
    none closed.0 closed.1 (split ∙ closed.2) closed.3)))

-- a string with an error in its content doesn't match the rule `cooked`
not_cooked : (kind : StringKind) (e : EscapeError) (text : List ℕ) → IsPlace kind e text
    → HasNone (Stands (cooked_string kind)) text
not_cooked kind e text is p r split stands =
    let body = stands.second in
    let close = body.second in
    let many = body.first in
    let rest : List ℕ = close.back ++ r in
    let last : body.back ++ r ≡ 34 ∷ rest =
    ap (λ t. t ++ r) (close.whole ∙ ap (λ t. t ++ close.back) close.first) in
    let whole : text ≡ string_front kind ++ (concat many.units ++ (34 ∷ rest)) =
    split ∙ (ap (λ t. t ++ r) (stands.whole ∙ ap₂ (λ a b. a ++ b) stands.first body.whole)
    ∙ (append_assoc (string_front kind) (body.front ++ body.back) r
    ∙ ap (λ t. string_front kind ++ t) (append_assoc body.front body.back r
    ∙ ap₂ (λ a b. a ++ b) many.whole last))) in
    let same : is.content ++ (34 ∷ is.tail) ≡ 34 ∷ rest =
    many_stop (unit kind) (clear_body kind).0 is.units many.units _ _ is.each
    (subst (Each (Stands (unit kind)) many.units) last many.each)
    (string_cancel kind _ _ (sym is.whole ∙ whole)) is.none
    (none_is (find (unit kind)) (Stands (unit kind)) (exact (unit kind) (clear_body kind).0) (34 ∷ rest)
    (no_unit kind rest)) in
    by_content is.content is.gives is.paired rest same
  where
    given : (kind : StringKind) (left : List ℕ) → StringFault kind e [] left → ⊥
    given kinds.Plain left g = g
    given kinds.Byte left g = g
    given kinds.C left g = g

    first_alone : (text : List ℕ) → Paired (34 ∷ text) → ⊥
    first_alone [] paired = both_ways _ refl paired
    first_alone (d ∷ text) (inl paired) = both_ways _ refl paired.0
    first_alone (d ∷ text) (inr paired) = let clash : ◌≡◌ {A = ℕ} 34 92 = paired.0 in omega (arith, clash)

    by_content : (content : List ℕ) → StringFault kind e content is.left → Paired content
        → (rest : List ℕ) → content ++ (34 ∷ is.tail) ≡ 34 ∷ rest → ⊥
    by_content [] gives paired rest same = given kind is.left gives
    by_content (c ∷ content) gives paired rest same =
        let quote : c ≡ 34 = cc in first_alone content (subst (λ d. Paired (d ∷ content)) quote paired)

pub bad_string_unfound : (first : Bool) (kind : StringKind) (e : EscapeError) (f p r : List ℕ)
    → IsBadString kind e f p r → find_piece first (f ++ (p ++ r)) ≡ None
bad_string_unfound first kind e f p r is =
    let text : List ℕ = f ++ (p ++ r) in
    let at = place_of kind e f p r is in
    string_found first kind text _ at.whole
    (unquoted_none text (string_unquoted kind text _ at.whole (not_cooked kind e text at)))

-- ---- raw strings

-- the opening of a raw string begins no identifier
raw_prefix : (kind : StringKind) (signs rest : List ℕ) → list_all is_hash signs ≡ true
    → begins_any literal_prefixes (raw_front kind ++ (signs ++ (34 ∷ rest))) ≡ true
raw_prefix kinds.Plain [] rest all = refl
raw_prefix kinds.Byte [] rest all = refl
raw_prefix kinds.C [] rest all = refl
raw_prefix kinds.Plain (c ∷ []) rest all =
    ap (λ d. begins_any literal_prefixes (114 ∷ d ∷ 34 ∷ rest)) (eqb-true c 35 (and_parts _ _ all).0)
raw_prefix kinds.Plain (c ∷ (d ∷ signs)) rest all =
    let parts = and_parts (is_hash c) _ all in
    ap₂ (λ x y. begins_any literal_prefixes (114 ∷ x ∷ y ∷ (signs ++ (34 ∷ rest)))) (eqb-true c 35 parts.0)
    (eqb-true d 35 (and_parts _ _ parts.1).0)
raw_prefix kinds.Byte (c ∷ signs) rest all =
    ap (λ d. begins_any literal_prefixes (98 ∷ 114 ∷ d ∷ (signs ++ (34 ∷ rest)))) (eqb-true c 35 (and_parts _ _ all).0)
raw_prefix kinds.C (c ∷ signs) rest all =
    ap (λ d. begins_any literal_prefixes (99 ∷ 114 ∷ d ∷ (signs ++ (34 ∷ rest)))) (eqb-true c 35 (and_parts _ _ all).0)

-- the letters of a raw string begin a piece only if an identifier or a literal does
letters_found : (first : Bool) (kind : StringKind) (text rest : List ℕ) → text ≡ raw_front kind ++ rest
    → find (identifier (begins_with (codes "r#") text)) text ≡ None → find quoted_literal text ≡ None
    → find_piece first text ≡ None
letters_found first kinds.Plain text rest e none last =
    letter_found first 114 text rest e (ident_start_ascii 114 (omega arith)) none last
letters_found first kinds.Byte text rest e none last =
    letter_found first 98 text (114 ∷ rest) e (ident_start_ascii 98 (omega arith)) none last
letters_found first kinds.C text rest e none last =
    letter_found first 99 text (114 ∷ rest) e (ident_start_ascii 99 (omega arith)) none last

-- a text with hash signs and a quote, but no raw string, begins with no piece
signed_found : (first : Bool) (kind : StringKind) (text rest : List ℕ) (is : IsSigned kind text) → is.rest ≡ 34 ∷ rest
    → HasNone (Stands (raw_string kind)) text → find_piece first text ≡ None
signed_found first kind text rest is quote none =
    letters_found first kind text _ is.whole
    (prefix_no_identifier text _ (ap (begins_any literal_prefixes) (is.whole
    ∙ ap (λ t. raw_front kind ++ (is.signs ++ t)) quote) ∙ raw_prefix kind is.signs rest is.run.each))
    (unquoted_none text (raw_unquoted kind text _ is.whole none))

-- a raw string, up to its second quote
pub record IsRawWhole (kind : StringKind) (text : List ℕ) : Type 0 where
  pub signed : IsSigned kind text
  pub few : length signed.signs ≤ 255
  pub units : List (List ℕ)
  pub rest : List ℕ
  pub whole : signed.rest ≡ 34 ∷ (concat units ++ (34 ∷ (signed.signs ++ rest)))
  pub each : Each (Stands (raw_strings.raw_unit (may_stand_raw kind) (34 ∷ signed.signs))) units
      (34 ∷ (signed.signs ++ rest))

raw_whole : (kind : StringKind) (text p r : List ℕ) → text ≡ p ++ r → Stands (raw_string kind) p r
    → IsRawWhole kind text
raw_whole kind text p r e is =
    let signs = is.second in
    let quote = signs.second in
    let body = quote.second in
    let close = body.second in
    let many = body.first in
    let rest : List ℕ = close.back ++ r in
    let last : body.back ++ r ≡ 34 ∷ (signs.front ++ rest) =
    ap (λ t. t ++ r) (close.whole ∙ ap (λ t. t ++ close.back) close.first)
    ∙ append_assoc (34 ∷ signs.front) close.back r in
    let tail : quote.back ++ r ≡ concat many.units ++ (34 ∷ (signs.front ++ rest)) =
    ap (λ t. t ++ r) body.whole ∙ (append_assoc body.front body.back r ∙ ap₂ (λ a b. a ++ b) many.whole last) in
    let after : signs.back ++ r ≡ 34 ∷ (concat many.units ++ (34 ∷ (signs.front ++ rest))) =
    ap (λ t. t ++ r) (quote.whole ∙ ap (λ t. t ++ quote.back) quote.first) ∙ ap (λ t. 34 ∷ t) tail in
    record {
      signed = record {
        signs = signs.front;
        rest = 34 ∷ (concat many.units ++ (34 ∷ (signs.front ++ rest)));
        whole = e ∙ (ap (λ t. t ++ r) (is.whole ∙ ap₂ (λ a b. a ++ b) is.first signs.whole)
            ∙ (append_assoc (raw_front kind) (signs.front ++ signs.back) r
            ∙ ap (λ t. raw_front kind ++ t) (append_assoc signs.front signs.back r
            ∙ ap (λ t. signs.front ++ t) after)));
        run = record { each = signs.first.0.each; stops = refl };
      };
      few = leb-true (length signs.front) 255 signs.first.1;
      units = many.units;
      rest = rest;
      whole = refl;
      each = subst (Each (Stands (raw_strings.raw_unit (may_stand_raw kind) (34 ∷ signs.front))) many.units) last
          many.each;
    }

-- the units of a raw string are characters at which its end doesn't begin
raw_ones : (kind : StringKind) (signs : List ℕ) (us : List (List ℕ)) (r : List ℕ)
    → Each (Stands (raw_strings.raw_unit (may_stand_raw kind) (34 ∷ signs))) us r
    → Many (Stands (shapes.raw_unit signs)) (concat us) r
raw_ones kind signs [] r each = record { units = []; whole = refl; each = tt }
raw_ones kind signs (u ∷ us) r each = one_more u each.0 (raw_ones kind signs us r each.1)
  where
    one_more : (u : List ℕ) → Stands (raw_strings.raw_unit (may_stand_raw kind) (34 ∷ signs)) u (concat us ++ r)
        → Many (Stands (shapes.raw_unit signs)) (concat us) r → Many (Stands (shapes.raw_unit signs)) (u ++ concat us) r
    one_more u (inl one, apart) more = record {
      units = (one.0 ∷ []) ∷ more.units;
      whole = ap₂ (λ a b. a ++ b) one.1 more.whole;
      each = (
        (
          (one.0, refl, refl),
          ap (begins_any ((34 ∷ signs) ∷ [])) (ap₂ (λ a b. a ++ (b ++ r)) (sym one.1) (sym more.whole)) ∙ apart,
        ),
        more.each,
      );
    }
    one_more u (inr newline, apart) more = record {
      units = (13 ∷ []) ∷ (10 ∷ []) ∷ more.units;
      whole = ap₂ (λ a b. a ++ b) newline more.whole;
      each = (((13, refl, refl), refl), (((10, refl, refl), refl), more.each));
    }

-- a raw string is closed
raw_closes : (kind : StringKind) (text : List ℕ) → IsRawWhole kind text → Lacks (closed_raw kind) [] [] text → ⊥
raw_closes kind text is none =
    let signs = is.signed.signs in
    let many = raw_ones kind signs is.units (34 ∷ (signs ++ is.rest)) is.each in
    let inner : List ℕ = concat is.units ++ (34 ∷ signs) in
    none (raw_front kind ++ (signs ++ (34 ∷ inner))) is.rest
    (is.signed.whole ∙ (ap (λ t. raw_front kind ++ (signs ++ t)) (is.whole
    ∙ ap (λ t. 34 ∷ t) (sym (append_assoc (concat is.units) (34 ∷ signs) is.rest)))
    ∙ (ap (λ t. raw_front kind ++ t) (sym (append_assoc signs (34 ∷ inner) is.rest))
    ∙ sym (append_assoc (raw_front kind) (signs ++ (34 ∷ inner)) is.rest))))
    (record {
      front = raw_front kind;
      back = signs ++ (34 ∷ inner);
      whole = refl;
      first = refl;
      second = record {
        front = signs;
        back = 34 ∷ inner;
        whole = refl;
        first = record { each = is.signed.run.each; stops = refl };
        second = record {
          front = codes "\"";
          back = inner;
          whole = refl;
          first = refl;
          second = record {
            front = concat is.units;
            back = 34 ∷ signs;
            whole = refl;
            first = many;
            second = refl;
          };
        };
      };
    })

pub unclosed_raw_unfound : (first : Bool) (kind : StringKind) (f p r : List ℕ) → Begins (raw_opening kind) f p r
    → Lacks (closed_raw kind) f p r → find_piece first (f ++ (p ++ r)) ≡ None
unclosed_raw_unfound first kind f p r is none =
    let text : List ℕ = f ++ (p ++ r) in
    let signed = opening_signed kind text p r (at_front f p r is.0) is.1 in
    signed_found first kind text r signed.0 signed.1
    (λ q s split stands. raw_closes kind text (raw_whole kind text q s split stands) none)

pub too_many_unfound : (first : Bool) (kind : StringKind) (f p r : List ℕ) → Begins (long_opening kind) f p r
    → find_piece first (f ++ (p ++ r)) ≡ None
unfolding opening_signed long_opens
too_many_unfound first kind f p r is =
    let text : List ℕ = f ++ (p ++ r) in
    let signed = opening_signed kind text p r (at_front f p r is.0) (long_opens kind p r is.1) in
    signed_found first kind text r signed.0 signed.1 (λ q s split stands.
    let whole = raw_whole kind text q s split stands in
    let same : whole.signed.signs ≡ is.1.second.front = (one_signed kind text whole.signed signed.0).0 in
    let few : length whole.signed.signs ≤ 255 = whole.few in
    let many : 255 < length is.1.second.front = ltb-true 255 (length is.1.second.front) is.1.second.first.1 in
    omega (arith, few, many, ap length same))

pub bad_raw_unfound : (first : Bool) (kind : StringKind) (e : EscapeError) (f p r : List ℕ) → IsBadRaw kind e f p r
    → find_piece first (f ++ (p ++ r)) ≡ None
bad_raw_unfound first kind e f p r is =
    let text : List ℕ = f ++ (p ++ r) in
    let at = raw_place_of kind e f p r is in
    signed_found first kind text _ at.signed at.rest (λ q s split stands.
    let whole = raw_whole kind text q s split stands in
    let signs = one_signed kind text at.signed whole.signed in
    let close : List ℕ = 34 ∷ whole.signed.signs in
    let body : 34 ∷ (concat at.units ++ (at.character ∷ at.more))
    ≡ 34 ∷ (concat whole.units ++ (34 ∷ (whole.signed.signs ++ whole.rest))) =
    sym at.rest ∙ (signs.1 ∙ whole.whole) in
    let inner : concat at.units ++ (at.character ∷ at.more)
    ≡ concat whole.units ++ (34 ∷ (whole.signed.signs ++ whole.rest)) = cc in
    let same : at.character ∷ at.more ≡ 34 ∷ (whole.signed.signs ++ whole.rest) =
    many_stop (raw_strings.raw_unit (may_stand_raw kind) close) (clear_raw_body kind close).0 at.units whole.units _ _
    (subst (λ s. Each (Stands (raw_strings.raw_unit (may_stand_raw kind) (34 ∷ s))) at.units (at.character ∷ at.more))
    signs.0 at.each)
    whole.each inner (no_raw_unit kind close e at.character at.more at.apart at.gives)
    (λ u v cut unit. both_ways _ unit.1 (ap (begins_any (close ∷ [])) (sym cut)
    ∙ or_left _ _ (begins_front close whole.rest))) in
    let quote : at.character ≡ 34 = cc in
    let taken = raw_taken kind 34 (may_quote kind) refl in
    let clash : ◌≡◌ {A = Result ℕ EscapeError} (Ok taken.0) (Err e) =
    sym taken.1 ∙ (ap (raw_character kind) (sym quote) ∙ at.gives) in
    cc)
  where
    may_quote : (kind : StringKind) → may_stand_raw kind 34 ≡ true
    may_quote kinds.Plain = refl
    may_quote kinds.Byte = refl
    may_quote kinds.C = refl

-- ---- hash signs without a quote, and reserved names

-- where hash signs have no quote after them, no raw string begins
no_raw_string : (kind : StringKind) (text : List ℕ) (is : IsSigned kind text)
    → first_passes (λ c. c == 34) is.rest ≡ false → HasNone (Stands (raw_string kind)) text
no_raw_string kind text is other q s split stands =
    let whole = raw_whole kind text q s split stands in
    both_ways _ other (ap (first_passes (λ c. c == 34)) ((one_signed kind text is whole.signed).1 ∙ whole.whole))

-- if no raw name follows `r#`, no identifier begins there
no_raw_name : (text rest : List ℕ) → text ≡ 114 ∷ 35 ∷ rest → HasNone (Stands raw_name) rest
    → find (identifier (begins_with (codes "r#") text)) text ≡ None
no_raw_name text rest e none =
    subst (λ b. find (identifier b) text ≡ None) (sym (ap (begins_with (codes "r#")) e))
    (none_found (identifier true) (clear_written true) text (λ p r split is.
    let raw = is.0 in
    let same : 114 ∷ 35 ∷ (raw.back ++ r) ≡ 114 ∷ 35 ∷ rest =
    sym (ap (λ t. t ++ r) (raw.whole ∙ ap (λ t. t ++ raw.back) raw.first)) ∙ (sym split ∙ e) in
    let after : rest ≡ raw.back ++ r = cc in
    none raw.back r after raw.second))

pub without_quote_unfound : (first : Bool) (kind : StringKind) (f p r : List ℕ)
    → Follow (hashed_front kind) no_double_quote f p r → Lacks raw_name_start f p r
    → find_piece first (f ++ (p ++ r)) ≡ None
without_quote_unfound first kind f p r is none =
    let text : List ℕ = f ++ (p ++ r) in
    let signed = hashed_signed kind f p r is in
    letters_found first kind text _ signed.0.whole (no_name kind signed.0 signed.2)
    (unquoted_none text (raw_unquoted kind text _ signed.0.whole (no_raw_string kind text signed.0 signed.1)))
  where
    hash_prefix : (kind : StringKind) (signs rest : List ℕ) → (kind ≡ kinds.Plain → ⊥) → list_all is_hash signs ≡ true
        → (signs ≡ [] → ⊥) → begins_any literal_prefixes (raw_front kind ++ (signs ++ rest)) ≡ true
    hash_prefix kinds.Plain signs rest other all some = absurd (other refl)
    hash_prefix kinds.Byte [] rest other all some = absurd (some refl)
    hash_prefix kinds.C [] rest other all some = absurd (some refl)
    hash_prefix kinds.Byte (c ∷ signs) rest other all some =
        ap (λ d. begins_any literal_prefixes (98 ∷ 114 ∷ d ∷ (signs ++ rest))) (eqb-true c 35 (and_parts _ _ all).0)
    hash_prefix kinds.C (c ∷ signs) rest other all some =
        ap (λ d. begins_any literal_prefixes (99 ∷ 114 ∷ d ∷ (signs ++ rest))) (eqb-true c 35 (and_parts _ _ all).0)

    plain_name : (signs rest : List ℕ) → list_all is_hash signs ≡ true → (signs ≡ [] → ⊥)
        → f ++ (p ++ r) ≡ codes "r" ++ (signs ++ rest)
        → find (identifier (begins_with (codes "r#") (f ++ (p ++ r)))) (f ++ (p ++ r)) ≡ None
    plain_name [] rest all some e = absurd (some refl)
    plain_name (c ∷ []) rest all some e =
        let whole : f ++ (p ++ r) ≡ 114 ∷ 35 ∷ rest =
        e ∙ ap (λ d. 114 ∷ d ∷ rest) (eqb-true c 35 (and_parts _ _ all).0) in
        no_raw_name (f ++ (p ++ r)) rest whole (λ q s split named.
        let one = named.0.first in
        none (codes "r#" ++ (one.0 ∷ [])) (named.0.back ++ s)
        (whole ∙ ap (λ t. 114 ∷ 35 ∷ t) (split ∙ ap (λ t. t ++ s) (named.0.whole ∙ ap (λ t. t ++ named.0.back) one.1)))
        (record {
          front = codes "r#";
          back = one.0 ∷ [];
          whole = refl;
          first = refl;
          second = (one.0, refl, one.2);
        }))
    plain_name (c ∷ (d ∷ signs)) rest all some e =
        let parts = and_parts (is_hash c) _ all in
        prefix_no_identifier (f ++ (p ++ r)) _ (ap (begins_any literal_prefixes) e
        ∙ ap₂ (λ x y. begins_any literal_prefixes (114 ∷ x ∷ y ∷ (signs ++ rest))) (eqb-true c 35 parts.0)
        (eqb-true d 35 (and_parts _ _ parts.1).0))

    no_name : (kind : StringKind) (signed : IsSigned kind (f ++ (p ++ r))) → (signed.signs ≡ [] → ⊥)
        → find (identifier (begins_with (codes "r#") (f ++ (p ++ r)))) (f ++ (p ++ r)) ≡ None
    no_name kinds.Plain signed some = plain_name signed.signs signed.rest signed.run.each some signed.whole
    no_name kinds.Byte signed some =
        prefix_no_identifier (f ++ (p ++ r)) _ (ap (begins_any literal_prefixes) signed.whole
        ∙ hash_prefix kinds.Byte signed.signs signed.rest (λ e. cc) signed.run.each some)
    no_name kinds.C signed some =
        prefix_no_identifier (f ++ (p ++ r)) _ (ap (begins_any literal_prefixes) signed.whole
        ∙ hash_prefix kinds.C signed.signs signed.rest (λ e. cc) signed.run.each some)

-- a reserved name is no raw identifier
pub reserved_no_name : (named r : List ℕ) → Stands (Where is_reserved name) named r
    → HasNone (Stands raw_name) (named ++ r)
reserved_no_name named r is p s split stands =
    let same : named ≡ p = (one_split name (assumption) named p r s is.0 stands.0 split).0 in
    both_ways _ (ap not (ap is_reserved (sym same) ∙ is.1)) stands.1

pub reserved_name_unfound : (first : Bool) (f p r : List ℕ) → f ≡ []
    → Stands (Then (Exactly (codes "r#")) (Where is_reserved name)) p r → find_piece first (f ++ (p ++ r)) ≡ None
reserved_name_unfound first f p r start is =
    let text : List ℕ = f ++ (p ++ r) in
    let signed = reserved_signed f p r start is in
    let whole : text ≡ 114 ∷ 35 ∷ (is.back ++ r) =
    at_front f p r start ∙ ap (λ t. t ++ r) (is.whole ∙ ap (λ t. t ++ is.back) is.first) in
    letters_found first kinds.Plain text _ signed.0.whole
    (no_raw_name text (is.back ++ r) whole (reserved_no_name is.back r is.second))
    (unquoted_none text (raw_unquoted kinds.Plain text _ signed.0.whole (no_raw_string kinds.Plain text signed.0
    signed.1)))
