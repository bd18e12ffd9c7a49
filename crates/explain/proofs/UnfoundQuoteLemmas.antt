-- Where a reason of a character or a lifetime holds, no piece begins.
use Rattle.std.proofs.Common.{◌≡◌, ℕ, Bool, true, false, not, ◌&&◌, ◌==◌, List, [], ◌∷◌, ◌++◌, codes}
use Rattle.std.proofs.Common.{Result, Ok, Err, None, inl, inr, refl, sym, ap, ap₂, ◌∙◌, subst, arith, append_assoc}
use Rattle.std.proofs.Common.{eqb-true, append-nil, ◌⊎◌}
use Rattle.std.specs.Char.{is_ascii, is_ascii_digit, is_ascii_hexdigit}
use Rattle.std.specs.List.{list_all}
use Rattle.std.proofs.lemmas.Bool.{and_parts, both_ways, cond-false, cond-true, false_from_ne_true, or_from, or_left}
use Rattle.std.proofs.lemmas.Bool.{or_cases, or_right}
use Rattle.std.proofs.lemmas.List.{append_cancel_left, append_cancel_right}
use Rattle.lexical.specs.Class.{is_ident_start}
use Rattle.lexical.specs.Form.{HasNone, Many}
use Rattle.lexical.specs.Identifier.{Named, is_reserved, literal_prefixes, name}
use Rattle.lexical.specs.Mark.{FollowsQuote, LoneQuote, bars_quote, comment_fronts}
use Rattle.lexical.specs.PieceFinder.{find_lone_quote, find_piece, literal_kind, or_found, quote_kind, and_kind}
use Rattle.lexical.specs.Quoted.{cooked_string, escape as escape_rule, is_code_digit, is_one_of}
use Rattle.lexical.specs.Quoted as rule
use Rattle.lexical.specs.RawString.{raw_string}
use Rattle.lexical.specs.Rule.{One, Exactly, Then, Where, Either, Stands}
use Rattle.lexical.specs.SingleQuoted.{byte, character, is_byte_char_plain, is_char_plain}
use Rattle.lexical.specs.Text.{begins_any, begins_with, first_passes}
use Rattle.lexical.specs.Token.{raw_front}
use Rattle.lexical.specs.declared.class.PieceStart.TheVariants as starts
use Rattle.lexical.specs.declared.quoted.StringKind.{StringKind}
use Rattle.lexical.specs.declared.quoted.StringKind.TheVariants as kinds
use Rattle.lexical.proofs.AnswerLemmas.{at_start}
use Rattle.lexical.proofs.ClassLemmas.{ident_continue_ascii, ident_start_ascii, start_quote}
use Rattle.lexical.proofs.FinderLemmas as finders
use Rattle.lexical.proofs.NameFinderLemmas.{finds_lone_quote, named_begins, named_start}
use Rattle.lexical.proofs.QuotedFinderLemmas.{each_kind}
use Rattle.lexical.proofs.RuleLemmas.{bars, one_split}
use Rattle.literal_escaper.specs.declared.errors.EscapeError.{EscapeError}
use Rattle.literal_escaper.specs.Escape.{Read}
use Rattle.literal_escaper.specs.Kind.{Kind, byte_kind, string_kind}
use Rattle.literal_escaper.specs.Single.{only, single, single_plain}
use Rattle.explain.specs.Content.{IsBadSingle, SingleFault}
use Rattle.explain.specs.Reason.{Begins, Follow, Lacks}
use Rattle.explain.specs.Shapes.{bars_character, closed_character, closed_named, closed_single, closed_single_body}
use Rattle.explain.specs.Shapes.{digit_lifetime, lifetime, raw_lifetime_start, reserved_raw, single_front}
use Rattle.explain.specs.Shapes.{single_opening, single_pair}
use Rattle.explain.specs.declared.quotes.SingleKind.{SingleKind}
use Rattle.explain.specs.declared.quotes.SingleKind.TheVariants as singles
use Rattle.explain.proofs.OneContentLemmas.{byte_single, one_character}
use Rattle.explain.proofs.PairedLemmas.{Paired, more_escaped, pair_of}
use Rattle.explain.proofs.TakenLemmas.{TakesAll, byte_takes, escape_taken, string_takes}
use Rattle.explain.proofs.QuoteReasonLemmas.{IsNamed, Digit, Plain, Raw, digit_unnamed, hash_unnamed, name_first}
use Rattle.explain.proofs.QuoteReasonLemmas.{named_is}
use Rattle.explain.proofs.QuoteReasonLemmas.{no_both, no_opening, reserved_unnamed, stops_at_hash}
use Rattle.explain.proofs.TextReasonLemmas.{at_front}
use Rattle.explain.proofs.UnfoundStringLemmas.{Unquoted, barred_here, letter_found, prefix_no_identifier}
use Rattle.explain.proofs.UnfoundStringLemmas.{reserved_name_unfound}
use Rattle.explain.proofs.UnfoundStringLemmas.{reserved_no_name, unquoted_none}

-- ---- pairs of a character literal

-- a character that is a pair by itself, and begins no comment
abbrev is_single : ℕ → Bool
is_single c = not (is_one_of (codes "'\\\n/") c)

single_by : (class : ℕ → Bool) → class 39 ≡ false → class 92 ≡ false → class 10 ≡ false → class 47 ≡ false → (c : ℕ)
    → class c ≡ true → is_single c ≡ true
single_by class quote backslash feed slash c is =
    ap not (or_from (39 == c) _ (no 39 quote) (or_from (92 == c) _ (no 92 backslash)
    (or_from (10 == c) _ (no 10 feed) (or_from (47 == c) _ (no 47 slash) refl))))
  where
    no : (k : ℕ) → class k ≡ false → (k == c) ≡ false
    no k out = false_from_ne_true _ (λ same. both_ways (class k) out (ap class (eqb-true k c same) ∙ is))

-- a character is a pair by itself where no comment begins
one_pair : (c : ℕ) (r : List ℕ) → not (is_one_of (codes "'\\\n") c) ≡ true
    → begins_any comment_fronts (c ∷ r) ≡ false → Stands single_pair (c ∷ []) r
one_pair c r is apart = (inl (c, refl, is), apart)

alone_pair : (c : ℕ) (r : List ℕ) → is_single c ≡ true → Stands single_pair (c ∷ []) r
alone_pair c r is = one_pair c r (plain c is) (apart c is)
  where
    plain : (c : ℕ) → is_single c ≡ true → not (is_one_of (codes "'\\\n") c) ≡ true
    plain c e = grind (arith, e)

    apart : (c : ℕ) → is_single c ≡ true → begins_any comment_fronts (c ∷ r) ≡ false
    apart c e = grind (arith, e)

alone_many : (cs r : List ℕ) → list_all is_single cs ≡ true → Many (Stands single_pair) cs r
alone_many [] r all = record { units = []; whole = refl; each = tt }
alone_many (c ∷ cs) r all =
    let parts = and_parts (is_single c) (list_all is_single cs) all in
    let more = alone_many cs r parts.1 in
    record {
      units = (c ∷ []) ∷ more.units;
      whole = ap (λ t. c ∷ t) more.whole;
      each = (subst (λ t. Stands single_pair (c ∷ []) (t ++ r)) more.whole (alone_pair c (cs ++ r) parts.0), more.each);
    }

-- a backslash and a character are a pair before such characters
two_many : (d : ℕ) (cs r : List ℕ) → (d == 10) ≡ false → list_all is_single cs ≡ true
    → Many (Stands single_pair) (92 ∷ d ∷ cs) r
two_many d cs r feed all =
    let more = alone_many cs r all in
    record {
      units = (92 ∷ d ∷ []) ∷ more.units;
      whole = ap (λ t. 92 ∷ d ∷ t) more.whole;
      each = (
        (
          inr (record {
            front = codes "\\";
            back = d ∷ [];
            whole = refl;
            first = refl;
            second = (d, refl, ap not feed);
          }),
          refl,
        ),
        more.each,
      );
    }

code_single : (cs : List ℕ) → list_all is_code_digit cs ≡ true → list_all is_single cs ≡ true
code_single [] all = refl
code_single (c ∷ cs) all =
    let parts = and_parts (is_code_digit c) (list_all is_code_digit cs) all in
    ap₂ (λ a b. a && b) (single_by is_code_digit refl refl refl refl c parts.0) (code_single cs parts.1)

hex_single : (c : ℕ) → is_ascii_hexdigit c ≡ true → is_single c ≡ true
hex_single = single_by is_ascii_hexdigit refl refl refl refl

letter_no_feed : (kind : StringKind) (c : ℕ) → is_one_of (rule.letters kind) c ≡ true → (c == 10) ≡ false
letter_no_feed kinds.Plain c is = false_from_ne_true _ (λ same.
    both_ways (is_one_of (rule.letters kinds.Plain) 10) refl
    (ap (is_one_of (rule.letters kinds.Plain)) (sym (eqb-true c 10 same)) ∙ is))
letter_no_feed kinds.Byte c is = false_from_ne_true _ (λ same.
    both_ways (is_one_of (rule.letters kinds.Byte) 10) refl
    (ap (is_one_of (rule.letters kinds.Byte)) (sym (eqb-true c 10 same)) ∙ is))
letter_no_feed kinds.C c is = false_from_ne_true _ (λ same.
    both_ways (is_one_of (rule.letters kinds.C) 10) refl
    (ap (is_one_of (rule.letters kinds.C)) (sym (eqb-true c 10 same)) ∙ is))

-- the pairs of an escape
escape_many : (kind : StringKind) (v r s : List ℕ) → Stands (escape_rule kind) v r
    → Many (Stands single_pair) (92 ∷ v) s
escape_many kind v r s (inl letter) =
    subst (λ t. Many (Stands single_pair) (92 ∷ t) s) (sym letter.1)
    (two_many letter.0 [] s (letter_no_feed kind letter.0 letter.2) refl)
escape_many kind v r s (inr (inl hex)) =
    let digits = pair_of kind hex.back r hex.second in
    subst (λ t. Many (Stands single_pair) (92 ∷ t) s)
    (sym (hex.whole ∙ (ap (λ t. t ++ hex.back) hex.first ∙ ap (λ t. 120 ∷ t) digits.whole)))
    (two_many 120 (digits.high ∷ digits.low ∷ []) s refl
    (ap₂ (λ a b. a && (b && true)) (hex_single digits.high digits.first) (hex_single digits.low digits.second)))
escape_many kind v r s (inr (inr code)) =
    let inner = code.second in
    let digits = inner.first.0 in
    let one = digits.first in
    subst (λ t. Many (Stands single_pair) (92 ∷ t) s)
    (sym (code.whole ∙ (ap (λ t. t ++ code.back) code.first
    ∙ ap (λ t. 117 ∷ 123 ∷ t) (inner.whole ∙ ap₂ (λ a b. a ++ b) (digits.whole ∙ ap (λ t. t ++ digits.back) one.1)
    inner.second))))
    (two_many 117 (123 ∷ ((one.0 ∷ digits.back) ++ codes "}")) s refl
    (braced ((one.0 ∷ digits.back) ++ codes "}") (closing (one.0 ∷ digits.back)
    (ap₂ (λ a b. a && b) (hex_single one.0 one.2) (code_single digits.back digits.second.each)))))
  where
    braced : (t : List ℕ) → list_all is_single t ≡ true → list_all is_single (123 ∷ t) ≡ true
    braced t h = h

    closing : (t : List ℕ) → list_all is_single t ≡ true → list_all is_single (t ++ codes "}") ≡ true
    closing [] h = refl
    closing (c ∷ t) h =
        let parts = and_parts (is_single c) (list_all is_single t) h in
        ap₂ (λ a b. a && b) parts.0 (closing t parts.1)

-- ---- a character or byte literal that matches its rule

-- an escape also matches its rule before other text
escape_before : (kind : StringKind) (v r s : List ℕ) → (kind ≡ kinds.C → ⊥) → Stands (escape_rule kind) v r
    → Stands (escape_rule kind) v s
escape_before kind v r s other (inl letter) = inl letter
escape_before kind v r s other (inr (inl hex)) = inr (inl (record {
  front = hex.front;
  back = hex.back;
  whole = hex.whole;
  first = hex.first;
  second = pair_before kind hex.back r s other hex.second;
}))
  where
    pair_before : (kind : StringKind) (ds r s : List ℕ) → (kind ≡ kinds.C → ⊥) → Stands (rule.pair kind) ds r
        → Stands (rule.pair kind) ds s
    pair_before kinds.Plain ds r s other is =
        record { front = is.front; back = is.back; whole = is.whole; first = is.first; second = is.second }
    pair_before kinds.Byte ds r s other is =
        record { front = is.front; back = is.back; whole = is.whole; first = is.first; second = is.second }
    pair_before kinds.C ds r s other is = absurd (other refl)
escape_before kind v r s other (inr (inr code)) =
    let inner = code.second in
    let digits = inner.first.0 in
    inr (inr (record {
      front = code.front;
      back = code.back;
      whole = code.whole;
      first = code.first;
      second = record {
        front = inner.front;
        back = inner.back;
        whole = inner.whole;
        first = (
          record {
            front = digits.front;
            back = digits.back;
            whole = digits.whole;
            first = digits.first;
            second = record {
              each = digits.second.each;
              stops = ap (λ t. first_passes is_code_digit (t ++ s)) inner.second;
            };
          },
          inner.first.1,
        );
        second = inner.second;
      };
    }))

-- the content is one unit for the escaper
abbrev OneUnit : SingleKind → List ℕ → Type 0
OneUnit singles.Character content = (u : ℕ) × ((single string_kind content).unit ≡ Ok u)
OneUnit singles.Byte content = (u : ℕ) × ((single byte_kind content).unit ≡ Ok u)

not_one_unit : (kind : SingleKind) (e : EscapeError) (content left : List ℕ) → OneUnit kind content
    → SingleFault kind e content left → ⊥
not_one_unit singles.Character e content left is other =
    let clash : ◌≡◌ {A = Result ℕ EscapeError} (Ok is.0) (Err e) = sym is.1 ∙ ap (λ r. r.unit) other in cc
not_one_unit singles.Byte e content left is other =
    let clash : ◌≡◌ {A = Result ℕ EscapeError} (Ok is.0) (Err e) = sym is.1 ∙ ap (λ r. r.unit) other in cc

-- an escape alone is one unit
escape_alone : (kind : Kind ℕ) (strings : StringKind) → TakesAll kind strings → (strings ≡ kinds.C → ⊥)
    → (v r : List ℕ)
    → Stands (escape_rule strings) v r → (u : ℕ) × ((single kind (92 ∷ v)).unit ≡ Ok u)
unfolding single
escape_alone kind strings takes other v r is =
    let here = escape_before strings v r (34 ∷ []) other is in
    let paired : Paired (92 ∷ v) =
    subst (λ t. Paired (92 ∷ t)) (append-nil v) (more_escaped strings (34 ∷ []) [] tt v (inr here)) in
    let taken = escape_taken kind strings takes v (34 ∷ []) v [] here refl paired in
    let none : [] ≡ taken.0 = append_cancel_left v [] taken.0 (append-nil v ∙ taken.1) in (
      taken.2.0,
      ap (λ (read : Read ℕ). (only read.unit read.rest).unit) taken.2.1
          ∙ ap (λ t. (only (Ok taken.2.0) t).unit) (sym none),
    )

plain_alone : (kind : Kind ℕ) (c u : ℕ) → is_char_plain c ≡ true → kind.of_char c ≡ Ok u
    → (single kind (c ∷ [])).unit ≡ Ok u
unfolding single
plain_alone kind c u plain of =
    let no : (k : ℕ) → is_char_plain k ≡ false → (c == k) ≡ false = λ k out. false_from_ne_true _ (λ same.
    both_ways _ out (ap is_char_plain (sym (eqb-true c k same)) ∙ plain)) in
    let read : single_plain kind c ≡ Ok u =
    cond-false _ _ _ (or_from _ _ (or_from _ _ (no 10 refl) (no 9 refl)) (no 39 refl))
    ∙ (cond-false _ _ _ (no 13 refl) ∙ of) in
    ap (λ (read : Read ℕ). (only read.unit read.rest).unit)
    (cond-false (c == 92) _ _ (no 92 refl) ∙ ap (λ o. record { unit = o; rest = [] }) read)

-- the text begins with a character or byte literal with this content
record IsWhole (kind : SingleKind) (text : List ℕ) : Type 0 where
  content : List ℕ
  tail : List ℕ
  whole : text ≡ (single_front kind ++ (content ++ codes "'")) ++ tail
  closes : Stands closed_single_body (content ++ codes "'") tail
  unit : OneUnit kind content
  -- the content is one character, or an escape
  first : ((c : ℕ) × (content ≡ c ∷ [])) ⊎ ((more : List ℕ) × (content ≡ 92 ∷ more))

-- the content is pairs up to the quote that closes the literal
closes_pairs : (content tail : List ℕ) → Many (Stands single_pair) content (39 ∷ tail)
    → ((c : ℕ) (more : List ℕ) → content ++ (39 ∷ tail) ≡ c ∷ more → is_one_of (codes "'\n") c ≡ false)
    → Stands closed_single_body (content ++ codes "'") tail
closes_pairs content tail pairs other =
    inr (
      λ p r e is.
          let one = is.first in
          let same : content ++ (39 ∷ tail) ≡ one.0 ∷ (is.back ++ r) =
          sym (append_assoc content (codes "'") tail)
          ∙ (e ∙ (ap (λ t. t ++ r) (is.whole ∙ ap (λ t. t ++ is.back) one.1))) in
          both_ways _ (other one.0 (is.back ++ r) same) one.2,
      record { front = content; back = codes "'"; whole = refl; first = pairs; second = refl },
    )

plain_closes : (c : ℕ) (tail : List ℕ) → is_char_plain c ≡ true
    → Stands closed_single_body ((c ∷ []) ++ codes "'") tail
plain_closes c tail plain =
    closes_pairs (c ∷ []) tail
    (record {
      units = (c ∷ []) ∷ [];
      whole = refl;
      each = (one_pair c (39 ∷ tail) (pair c plain) (apart c), tt);
    })
    (λ d more e. let same : c ≡ d = cc in ap (is_one_of (codes "'\n")) (sym same) ∙ none c plain)
  where
    pair : (c : ℕ) → is_char_plain c ≡ true → not (is_one_of (codes "'\\\n") c) ≡ true
    pair c e = grind (arith, e)

    none : (c : ℕ) → is_char_plain c ≡ true → is_one_of (codes "'\n") c ≡ false
    none c e = grind (arith, e)

    apart : (c : ℕ) → begins_any comment_fronts (c ∷ 39 ∷ tail) ≡ false
    apart c = grind arith

escape_closes : (kind : StringKind) (v r tail : List ℕ) → Stands (escape_rule kind) v r
    → Stands closed_single_body ((92 ∷ v) ++ codes "'") tail
escape_closes kind v r tail is =
    closes_pairs (92 ∷ v) tail (escape_many kind v r (39 ∷ tail) is)
    (λ d more e. let same : 92 ≡ d = cc in ap (is_one_of (codes "'\n")) (sym same))

-- the text of a literal, by its content
whole_text : (front content close suffix p r text mid back : List ℕ) → text ≡ p ++ r → p ≡ front ++ mid
    → mid ≡ content ++ back
    → back ≡ close ++ suffix → text ≡ (front ++ (content ++ close)) ++ (suffix ++ r)
whole_text front content close suffix p r text mid back e whole inner last =
    e ∙ (ap (λ t. t ++ r) (whole ∙ ap (λ t. front ++ t) (inner ∙ ap (λ t. content ++ t) last
    ∙ sym (append_assoc content close suffix)))
    ∙ (ap (λ t. t ++ r) (sym (append_assoc front (content ++ close) suffix))
    ∙ append_assoc (front ++ (content ++ close)) suffix r))

character_whole : (text p r : List ℕ) → text ≡ p ++ r → Stands character p r → IsWhole singles.Character text
character_whole text p r e is = by_unit is.second.first
  where
    opening : p ≡ codes "'" ++ is.back
    opening = is.whole ∙ ap (λ t. t ++ is.back) is.first

    last : is.second.back ≡ codes "'" ++ is.second.second.back
    last = is.second.second.whole ∙ ap (λ t. t ++ is.second.second.back) is.second.second.first

    by_unit : Stands (Either (One is_char_plain) (Then (Exactly (codes "\\")) (escape_rule kinds.Plain)))
        is.second.front (is.second.back ++ r) → IsWhole singles.Character text
    by_unit (inl one) = record {
      content = one.0 ∷ [];
      tail = is.second.second.back ++ r;
      whole = whole_text (codes "'") (one.0 ∷ []) (codes "'") is.second.second.back p r text is.back is.second.back e
          opening
          (is.second.whole ∙ ap (λ t. t ++ is.second.back) one.1) last;
      closes = plain_closes one.0 (is.second.second.back ++ r) one.2;
      unit = (one.0, plain_alone string_kind one.0 one.0 one.2 refl);
      first = inl (one.0, refl);
    }
    by_unit (inr escaped) = record {
      content = 92 ∷ escaped.back;
      tail = is.second.second.back ++ r;
      whole = whole_text (codes "'") (92 ∷ escaped.back) (codes "'") is.second.second.back p r text is.back
          is.second.back e opening
          (is.second.whole ∙ ap (λ t. t ++ is.second.back)
          (escaped.whole ∙ ap (λ t. t ++ escaped.back) escaped.first)) last;
      closes = escape_closes kinds.Plain escaped.back _ (is.second.second.back ++ r) escaped.second;
      unit = escape_alone string_kind kinds.Plain string_takes (λ x. cc) escaped.back _ escaped.second;
      first = inr (escaped.back, refl);
    }

byte_whole : (text p r : List ℕ) → text ≡ p ++ r → Stands byte p r → IsWhole singles.Byte text
byte_whole text p r e is = by_unit is.second.first
  where
    opening : p ≡ codes "b'" ++ is.back
    opening = is.whole ∙ ap (λ t. t ++ is.back) is.first

    last : is.second.back ≡ codes "'" ++ is.second.second.back
    last = is.second.second.whole ∙ ap (λ t. t ++ is.second.second.back) is.second.second.first

    by_unit : Stands (Either (One is_byte_char_plain) (Then (Exactly (codes "\\")) (escape_rule kinds.Byte)))
        is.second.front (is.second.back ++ r) → IsWhole singles.Byte text
    by_unit (inl one) =
        let parts = and_parts (is_char_plain one.0) (is_ascii one.0) one.2 in record {
          content = one.0 ∷ [];
          tail = is.second.second.back ++ r;
          whole = whole_text (codes "b'") (one.0 ∷ []) (codes "'") is.second.second.back p r text is.back
              is.second.back e opening
              (is.second.whole ∙ ap (λ t. t ++ is.second.back) one.1) last;
          closes = plain_closes one.0 (is.second.second.back ++ r) parts.0;
          unit = (one.0, plain_alone byte_kind one.0 one.0 parts.0 (cond-true _ _ _ parts.1));
          first = inl (one.0, refl);
        }
    by_unit (inr escaped) = record {
      content = 92 ∷ escaped.back;
      tail = is.second.second.back ++ r;
      whole = whole_text (codes "b'") (92 ∷ escaped.back) (codes "'") is.second.second.back p r text is.back
          is.second.back e opening
          (is.second.whole ∙ ap (λ t. t ++ is.second.back)
          (escaped.whole ∙ ap (λ t. t ++ escaped.back) escaped.first)) last;
      closes = escape_closes kinds.Byte escaped.back _ (is.second.second.back ++ r) escaped.second;
      unit = escape_alone byte_kind kinds.Byte byte_takes (λ x. cc) escaped.back _ escaped.second;
      first = inr (escaped.back, refl);
    }

-- ---- where no lone quote begins

-- the text after a lone quote begins a name
follows_start : (rest : List ℕ) → FollowsQuote rest → first_passes is_ident_start rest ≡ true
follows_start rest h = ap (first_passes is_ident_start) h.whole ∙ named_start h.raw h.name h.rest h.named

start_bars : (rest : List ℕ) → first_passes is_ident_start rest ≡ true → first_passes bars_character rest ≡ true
start_bars [] is = is
start_bars (c ∷ rest) is = or_left _ _ is

lone_unquoted : (text rest : List ℕ) → text ≡ 39 ∷ rest → HasNone (Stands character) text → Unquoted text
lone_unquoted text rest e none = record {
  strings = λ k. barred_here (codes "'") rest text e (cooked_string k)
      (each_kind (λ k. bars (codes "'") (cooked_string k) ≡ true) refl refl refl k);
  raw_strings = λ k. barred_here (codes "'") rest text e (raw_string k)
      (each_kind (λ k. bars (codes "'") (raw_string k) ≡ true) refl refl refl k);
  characters = none;
  bytes = barred_here (codes "'") rest text e byte refl;
}

byte_unquoted : (text rest : List ℕ) → text ≡ codes "b'" ++ rest → HasNone (Stands byte) text → Unquoted text
byte_unquoted text rest e none = record {
  strings = λ k. barred_here (codes "b'") rest text e (cooked_string k)
      (each_kind (λ k. bars (codes "b'") (cooked_string k) ≡ true) refl refl refl k);
  raw_strings = λ k. barred_here (codes "b'") rest text e (raw_string k)
      (each_kind (λ k. bars (codes "b'") (raw_string k) ≡ true) refl refl refl k);
  characters = barred_here (codes "b'") rest text e character refl;
  bytes = none;
}

lone_found : (first : Bool) (text rest : List ℕ) → text ≡ 39 ∷ rest → (FollowsQuote rest → ⊥)
    → HasNone (Stands character) text → find_piece first text ≡ None
lone_found first text rest e unnamed none =
    at_start first starts.Quote e (sym start_quote)
    ∙ ap₂ (λ o u. or_found (and_kind quote_kind o) (and_kind literal_kind u))
    (finders.none_found find_lone_quote LoneQuote finds_lone_quote text (λ p r split is.
    let same : 39 ∷ r ≡ 39 ∷ rest = ap (λ t. t ++ r) (sym is.0) ∙ (sym split ∙ e) in
    let after : r ≡ rest = cc in
    unnamed (subst FollowsQuote after is.1)))
    (unquoted_none text (lone_unquoted text rest e none))

byte_found : (first : Bool) (text rest : List ℕ) → text ≡ codes "b'" ++ rest → HasNone (Stands byte) text
    → find_piece first text ≡ None
byte_found first text rest e none =
    letter_found first 98 text (39 ∷ rest) e (ident_start_ascii 98 (omega arith))
    (prefix_no_identifier text _ (ap (begins_any literal_prefixes) e))
    (unquoted_none text (byte_unquoted text rest e none))

-- ---- a whole literal is closed

byte_single_of : (text : List ℕ) (is : IsWhole singles.Byte text)
    → Stands closed_single (codes "b'" ++ (is.content ++ codes "'")) is.tail
byte_single_of text is = record {
  front = codes "b'";
  back = is.content ++ codes "'";
  whole = refl;
  first = inr refl;
  second = is.closes;
}

lone_single_of : (text : List ℕ) (is : IsWhole singles.Character text)
    → first_passes bars_character ((is.content ++ codes "'") ++ is.tail) ≡ false
    → Stands closed_single (codes "'" ++ (is.content ++ codes "'")) is.tail
lone_single_of text is barred = record {
  front = codes "'";
  back = is.content ++ codes "'";
  whole = refl;
  first = inl (refl, barred);
  second = is.closes;
}

-- a character literal with one name character or digit between its quotes
named_single : (c : ℕ) (tail : List ℕ) → bars_character c ≡ true
    → Stands closed_named (codes "'" ++ ((c ∷ []) ++ codes "'")) tail
named_single c tail is = inr (record {
  front = codes "'";
  back = (c ∷ []) ++ codes "'";
  whole = refl;
  first = refl;
  second = record {
    front = c ∷ [];
    back = codes "'";
    whole = refl;
    first = elim (or_cases (is_ident_start c) (is_ascii_digit c) is) [
      | inl start ↦ inl (record {
        front = c ∷ [];
        back = [];
        whole = refl;
        first = (c, refl, start);
        second = record { each = refl; stops = ident_continue_ascii 39 (omega arith) };
      })
      | inr digit ↦ inr (record {
        front = c ∷ [];
        back = [];
        whole = refl;
        first = (c, refl, digit);
        second = record { each = refl; stops = ident_continue_ascii 39 (omega arith) };
      })
    ];
    second = refl;
  };
})

-- a whole character literal is closed
character_closed : (text : List ℕ) (is : IsWhole singles.Character text)
    → Stands closed_character (codes "'" ++ (is.content ++ codes "'")) is.tail
character_closed text is = by_bars (first_passes bars_character ((is.content ++ codes "'") ++ is.tail)) refl
  where
    by_content : (content : List ℕ)
        → ((c : ℕ) × (content ≡ c ∷ [])) ⊎ ((more : List ℕ) × (content ≡ 92 ∷ more))
        → first_passes bars_character ((content ++ codes "'") ++ is.tail) ≡ true
        → Stands closed_character (codes "'" ++ (content ++ codes "'")) is.tail
    by_content content (inl one) barring =
        let here : bars_character one.0 ≡ true =
        ap (λ t. first_passes bars_character ((t ++ codes "'") ++ is.tail)) (sym one.1) ∙ barring in
        subst (λ t. Stands closed_character (codes "'" ++ (t ++ codes "'")) is.tail) (sym one.1)
        (inr (named_single one.0 is.tail here))
    by_content content (inr escaped) barring =
        absurd (both_ways (bars_character 92) (or_from _ _ (ident_start_ascii 92 (omega arith)) refl)
        (ap (λ t. first_passes bars_character ((t ++ codes "'") ++ is.tail)) (sym escaped.1) ∙ barring))

    by_bars : (b : Bool) → first_passes bars_character ((is.content ++ codes "'") ++ is.tail) ≡ b
        → Stands closed_character (codes "'" ++ (is.content ++ codes "'")) is.tail
    by_bars false plain = inl (lone_single_of text is plain)
    by_bars true barring = by_content is.content is.first barring

-- a character literal with a name or a digit between its quotes is a named one
character_named : (text rest : List ℕ) → text ≡ 39 ∷ rest → first_passes bars_character rest ≡ true
    → (p r : List ℕ) → text ≡ p ++ r → Stands character p r → IsNamed text
character_named text rest e barring p r split stands =
    let is = character_whole text p r split stands in
    elim (character_closed text is) [
      | inl single ↦ absurd (no_opening text rest e barring single.front (single.back ++ is.tail)
          (is.whole ∙ (ap (λ t. t ++ is.tail) single.whole ∙ append_assoc single.front single.back is.tail))
          single.first)
      | inr named ↦ named_is text _ is.tail is.whole named
    ]

-- ---- the reasons

pub unclosed_character_unfound : (first : Bool) (f p r : List ℕ) → Begins single_opening f p r
    → Lacks closed_single f p r → find_piece first (f ++ (p ++ r)) ≡ None
unclosed_character_unfound first f p r (start, inl is) none =
    let text : List ℕ = f ++ (p ++ r) in
    let e : text ≡ 39 ∷ r = at_front f p r start ∙ ap (λ t. t ++ r) is.0 in
    lone_found first text r e (λ h. both_ways _ is.1 (start_bars r (follows_start r h)))
    (λ q s split stands.
    let whole = character_whole text q s split stands in
    let same : 39 ∷ ((whole.content ++ codes "'") ++ whole.tail) ≡ 39 ∷ r = sym whole.whole ∙ e in
    let after : (whole.content ++ codes "'") ++ whole.tail ≡ r = cc in
    none (codes "'" ++ (whole.content ++ codes "'")) whole.tail whole.whole
    (lone_single_of text whole (ap (first_passes bars_character) after ∙ is.1)))
unclosed_character_unfound first f p r (start, inr is) none =
    let text : List ℕ = f ++ (p ++ r) in
    byte_found first text r (at_front f p r start ∙ ap (λ t. t ++ r) is) (λ q s split stands.
    let whole = byte_whole text q s split stands in
    none (codes "b'" ++ (whole.content ++ codes "'")) whole.tail whole.whole (byte_single_of text whole))

-- if a literal with a name is closed, its first quote is no lone quote
named_no_follow : (text rest : List ℕ) → text ≡ 39 ∷ rest → IsNamed text → FollowsQuote rest → ⊥
named_no_follow text rest e (Digit c more back whole digit run) h =
    let same : 39 ∷ rest ≡ 39 ∷ (c ∷ (more ++ (39 ∷ back))) = sym e ∙ whole in
    let after : rest ≡ c ∷ (more ++ (39 ∷ back)) = cc in
    no_both c (ap (first_passes is_ident_start) (sym after) ∙ follows_start rest h) digit
named_no_follow text rest e (Raw named back whole is) h =
    let same : 39 ∷ rest ≡ 39 ∷ (114 ∷ 35 ∷ (named ++ (39 ∷ back))) = sym e ∙ whole in
    let after : rest ≡ 114 ∷ 35 ∷ (named ++ (39 ∷ back)) = cc in
    by_raw h.raw h.name h.rest (sym h.whole ∙ after) h.named h.unbarred
  where
    by_raw : (raw : Bool) (other r : List ℕ) → raw_front raw ++ (other ++ r) ≡ 114 ∷ 35 ∷ (named ++ (39 ∷ back))
        → Named raw other r → first_passes (bars_quote raw) r ≡ false → ⊥
    by_raw true other r e stands unbarred =
        let same : other ++ r ≡ named ++ (39 ∷ back) = cc in
        let rest : r ≡ 39 ∷ back = (one_split name (assumption) other named r (39 ∷ back) stands.0 is same).1 in
        both_ways _ unbarred (ap (first_passes (bars_quote true)) rest)
    by_raw false other r e stands unbarred =
        both_ways _ (named_begins false other r stands) (ap (begins_with (codes "r#")) e)
named_no_follow text rest e (Plain named back whole is) h =
    let same : 39 ∷ rest ≡ 39 ∷ (named ++ (39 ∷ back)) = sym e ∙ whole in
    let after : rest ≡ named ++ (39 ∷ back) = cc in
    by_raw h.raw h.name h.rest (sym h.whole ∙ after) h.named h.unbarred
  where
    by_raw : (raw : Bool) (other r : List ℕ) → raw_front raw ++ (other ++ r) ≡ named ++ (39 ∷ back)
        → Named raw other r → first_passes (bars_quote raw) r ≡ false → ⊥
    by_raw true other r e stands unbarred =
        let first = name_first named (39 ∷ back) is in
        let same : 114 ∷ 35 ∷ (other ++ r) ≡ first.0 ∷ (first.1 ++ (39 ∷ back)) =
        e ∙ ap (λ t. t ++ (39 ∷ back)) first.2 in
        let rest : first.1 ++ (39 ∷ back) ≡ 35 ∷ (other ++ r) = cc in
        stops_at_hash first.1 (other ++ r) back first.4 rest
    by_raw false other r e stands unbarred =
        let rest : r ≡ 39 ∷ back = (one_split name (assumption) other named r (39 ∷ back) stands.0 is e).1 in
        both_ways _ unbarred (ap (first_passes (bars_quote false)) rest)

pub bad_single_unfound : (first : Bool) (kind : SingleKind) (e : EscapeError) (f p r : List ℕ)
    → IsBadSingle kind e f p r → find_piece first (f ++ (p ++ r)) ≡ None
bad_single_unfound first singles.Byte e f p r is =
    let text : List ℕ = f ++ (p ++ r) in
    byte_found first text _ is.whole (λ q s split stands.
    let whole = byte_whole text q s split stands in
    let same : 98 ∷ 39 ∷ (is.content ++ codes "'") ≡ 98 ∷ 39 ∷ (whole.content ++ codes "'") =
    (one_split closed_single (assumption) _ _ is.tail whole.tail
    (byte_single text _ _ is.tail is.whole is.whole is.closed) (byte_single_of text whole)
    (sym is.whole ∙ whole.whole)).0 in
    let rest : is.content ++ codes "'" ≡ whole.content ++ codes "'" = cc in
    let content : is.content ≡ whole.content = append_cancel_right _ _ (codes "'") rest in
    not_one_unit singles.Byte e is.content is.left (subst (OneUnit singles.Byte) (sym content) whole.unit) is.gives)
bad_single_unfound first singles.Character e f p r is =
    let text : List ℕ = f ++ (p ++ r) in
    let rest : List ℕ = (is.content ++ codes "'") ++ is.tail in
    let lone : text ≡ 39 ∷ rest = is.whole in
    lone_found first text rest lone
    (λ h. elim is.closed [
      | inl single ↦ no_opening text rest lone (start_bars rest (follows_start rest h)) single.front
          (single.back ++ is.tail)
          (is.whole ∙ (ap (λ t. t ++ is.tail) single.whole ∙ append_assoc single.front single.back is.tail))
          single.first
      | inr named ↦ named_no_follow text rest lone (named_is text _ is.tail is.whole named) h
    ])
    (λ q s split stands.
    let whole = character_whole text q s split stands in
    let same : 39 ∷ (is.content ++ codes "'") ≡ 39 ∷ (whole.content ++ codes "'") =
    one_character text rest _ _ is.tail whole.tail lone is.whole whole.whole is.closed (character_closed text whole) in
    let inner : is.content ++ codes "'" ≡ whole.content ++ codes "'" = cc in
    let content : is.content ≡ whole.content = append_cancel_right _ _ (codes "'") inner in
    not_one_unit singles.Character e is.content is.left (subst (OneUnit singles.Character) (sym content) whole.unit)
    is.gives)

pub digit_lifetime_unfound : (first : Bool) (f p r : List ℕ) → Begins digit_lifetime f p r
    → find_piece first (f ++ (p ++ r)) ≡ None
digit_lifetime_unfound first f p r is =
    let text : List ℕ = f ++ (p ++ r) in
    let quote = is.1.0 in
    let digits = quote.second in
    let one = digits.first in
    let whole : text ≡ 39 ∷ one.0 ∷ (digits.back ++ r) =
    at_front f p r is.0 ∙ (ap (λ t. t ++ r) (quote.whole ∙ ap (λ t. t ++ quote.back) quote.first)
    ∙ ap (λ t. 39 ∷ (t ++ r)) (digits.whole ∙ ap (λ t. t ++ digits.back) one.1)) in
    lone_found first text _ whole (λ h. no_both one.0 (follows_start (one.0 ∷ (digits.back ++ r)) h) one.2)
    (λ q s split stands. digit_unnamed text r one.0 digits.back whole one.2 digits.second is.1.1
    (character_named text _ whole (or_right _ _ one.2) q s split stands))

pub hash_after_unfound : (first : Bool) (f p r : List ℕ) → Follow lifetime (Exactly (codes "#")) f p r
    → Lacks raw_lifetime_start f p r → find_piece first (f ++ (p ++ r)) ≡ None
hash_after_unfound first f p r is none =
    let text : List ℕ = f ++ (p ++ r) in
    let quote = is.0 in
    let hash : p ++ r ≡ 35 ∷ r = ap (λ t. t ++ r) is.1 in
    let named : Stands name quote.back (35 ∷ r) = subst (Stands name quote.back) hash quote.second in
    let first_of = name_first quote.back (35 ∷ r) named in
    let lone : text ≡ 39 ∷ (quote.back ++ (35 ∷ r)) =
    ap (λ t. f ++ t) hash
    ∙ ap (λ t. t ++ (35 ∷ r)) (quote.whole ∙ ap (λ t. t ++ quote.back) quote.first) in
    let whole : text ≡ 39 ∷ first_of.0 ∷ (first_of.1 ++ (35 ∷ r)) =
    lone ∙ ap (λ t. 39 ∷ (t ++ (35 ∷ r))) first_of.2 in
    lone_found first text _ lone
    (λ h. by_raw quote.back named text lone none h.raw h.name h.rest (sym h.whole) h.named h.unbarred)
    (λ q s split stands. hash_unnamed text r first_of.0 first_of.1 whole first_of.3 first_of.4 none
    (character_named text _ whole (or_left _ _ first_of.3) q s split stands))
  where
    by_raw : (named : List ℕ) → Stands name named (35 ∷ r) → (text : List ℕ) → text ≡ 39 ∷ (named ++ (35 ∷ r))
        → HasNone (Stands raw_lifetime_start) text
        → (raw : Bool) (other s : List ℕ) → raw_front raw ++ (other ++ s) ≡ named ++ (35 ∷ r)
        → Named raw other s → first_passes (bars_quote raw) s ≡ false → ⊥
    by_raw named is text e none true other s same stands unbarred =
        let first = name_first other s stands.0 in
        none (codes "'r#" ++ (first.0 ∷ [])) (first.1 ++ s)
        (e ∙ (ap (λ t. 39 ∷ t) (sym same) ∙ ap (λ t. 39 ∷ 114 ∷ 35 ∷ (t ++ s)) first.2))
        (record {
          front = codes "'r#";
          back = first.0 ∷ [];
          whole = refl;
          first = refl;
          second = (first.0, refl, first.3);
        })
    by_raw named is text e none false other s same stands unbarred =
        let rest : s ≡ 35 ∷ r = (one_split name (assumption) other named s (35 ∷ r) stands.0 is same).1 in
        both_ways _ unbarred (ap (first_passes (bars_quote false)) rest)

pub reserved_unfound : (first : Bool) (f p r : List ℕ) → Begins reserved_raw f p r
    → find_piece first (f ++ (p ++ r)) ≡ None
reserved_unfound first f p r (start, inl is) = reserved_name_unfound first f p r start is
reserved_unfound first f p r (start, inr is) =
    let text : List ℕ = f ++ (p ++ r) in
    let quote = is.0 in
    let named = quote.second.0 in
    let whole : text ≡ codes "'r#" ++ (quote.back ++ r) =
    at_front f p r start ∙ (ap (λ t. t ++ r) (quote.whole ∙ ap (λ t. t ++ quote.back) quote.first)
    ∙ append_assoc (codes "'r#") quote.back r) in
    lone_found first text _ whole
    (λ h. by_raw quote.back quote.second h.raw h.name h.rest (sym h.whole) h.named)
    (λ q s split stands. reserved_unnamed text quote.back r whole named is.1
    (character_named text _ whole (or_left _ _ (ident_start_ascii 114 (omega arith))) q s split stands))
  where
    by_raw : (named : List ℕ) → Stands (Where is_reserved name) named r → (raw : Bool) (other s : List ℕ)
        → raw_front raw ++ (other ++ s) ≡ 114 ∷ 35 ∷ (named ++ r) → Named raw other s → ⊥
    by_raw named is true other s e stands =
        let same : named ++ r ≡ other ++ s = cc in
        reserved_no_name named r is other s same stands
    by_raw named is false other s e stands =
        both_ways _ (named_begins false other s stands) (ap (begins_with (codes "r#")) e)
