-- A content has at most one first error.
use Rattle.std.proofs.Common.{◌≡◌, ℕ, true, false, not, ◌&&◌, ◌==◌, List, [], ◌∷◌, ◌++◌, codes}
use Rattle.std.proofs.Common.{Result, Ok, Err, inl, inr, ◌⊎◌, refl, sym, ap, ap₂, ◌∙◌, subst, append_assoc}
use Rattle.std.proofs.Common.{append-nil}
use Rattle.std.specs.List.{concat}
use Rattle.std.specs.Char.{is_ascii_digit}
use Rattle.std.proofs.lemmas.Bool.{and_parts, both_ways, cond-false, cond-true, not-true}
use Rattle.std.proofs.lemmas.List.{append_cancel_right}
use Rattle.lexical.specs.Class.{is_ident_continue, is_ident_start}
use Rattle.lexical.specs.Form.{Each, HasNone}
use Rattle.lexical.specs.Identifier.{name}
use Rattle.lexical.specs.Quoted.{front as string_front, unit}
use Rattle.lexical.specs.RawString.{may_stand_raw, raw_front}
use Rattle.lexical.specs.RawString as raw_strings
use Rattle.lexical.specs.Rule.{Rule, Run, Stands}
use Rattle.lexical.specs.Text.{begins_any, begins_with}
use Rattle.lexical.specs.declared.quoted.StringKind.{StringKind}
use Rattle.lexical.specs.declared.quoted.StringKind.TheVariants as kinds
use Rattle.lexical.proofs.QuotedFinderLemmas.{clear_body, clear_raw_body}
use Rattle.lexical.proofs.RuleLemmas.{Clear, bars_sound, one_split}
use Rattle.literal_escaper.specs.declared.errors.EscapeError.{EscapeError}
use Rattle.literal_escaper.specs.Escape.{Read, fault}
use Rattle.literal_escaper.specs.Items.{unit_front}
use Rattle.literal_escaper.specs.Kind.{Kind, byte_kind, c_kind, string_kind}
use Rattle.literal_escaper.specs.Single.{single}
use Rattle.explain.specs.Content.{GivesFault, IsBadContent, IsBadRaw, IsBadSingle, IsBadString, SingleFault}
use Rattle.explain.specs.Content.{StringFault}
use Rattle.explain.specs.Content.{line_ends, raw_character}
use Rattle.explain.specs.Shapes.{closed_character, closed_named, closed_single, closed_string, single_front}
use Rattle.explain.specs.declared.quotes.SingleKind.{SingleKind}
use Rattle.explain.specs.declared.quotes.SingleKind.TheVariants as singles
use Rattle.explain.proofs.PairedLemmas.{Paired, paired_of, past_units}
use Rattle.explain.proofs.TakenLemmas.{no_unit_at}
use Rattle.explain.proofs.MainReason.{Front, Quotes, Letters, Bytes, Lone, digit_named, front_of, letters_front}
use Rattle.explain.proofs.MainReason.{plain_named}
use Rattle.explain.proofs.MainReason.{quotes_front, raw_named}
use Rattle.explain.proofs.QuoteReasonLemmas.{name_first, named_bars, named_is, no_both, no_opening, stops_at_hash}
use Rattle.explain.proofs.TextReasonLemmas.{IsSigned, closed_whole, one_signed}

-- ---- units up to where there is none

pub many_stop : (rule : Rule) → Clear rule → (us vs : List (List ℕ)) (x y : List ℕ) → Each (Stands rule) us x
    → Each (Stands rule) vs y → concat us ++ x ≡ concat vs ++ y → HasNone (Stands rule) x → HasNone (Stands rule) y
    → x ≡ y
many_stop rule clear [] [] x y each other e none last = e
many_stop rule clear [] (v ∷ vs) x y each other e none last =
    absurd (none v (concat vs ++ y) (e ∙ append_assoc v (concat vs) y) other.0)
many_stop rule clear (u ∷ us) [] x y each other e none last =
    absurd (last u (concat us ++ x) (sym e ∙ append_assoc u (concat us) x) each.0)
many_stop rule clear (u ∷ us) (v ∷ vs) x y each other e none last =
    many_stop rule clear us vs x y each.1 other.1
    (one_split rule clear u v (concat us ++ x) (concat vs ++ y) each.0 other.0
    (sym (append_assoc u (concat us) x) ∙ (e ∙ append_assoc v (concat vs) y))).1 none last

-- ---- strings

-- the text before the first error consists of units
pub record IsPlace (kind : StringKind) (e : EscapeError) (text : List ℕ) : Type 0 where
  pub units : List (List ℕ)
  pub content : List ℕ
  pub left : List ℕ
  pub tail : List ℕ
  pub whole : text ≡ string_front kind ++ (concat units ++ (content ++ (34 ∷ tail)))
  pub each : Each (Stands (unit kind)) units (content ++ (34 ∷ tail))
  pub none : HasNone (Stands (unit kind)) (content ++ (34 ∷ tail))
  pub gives : StringFault kind e content left
  pub paired : Paired content
  pub closed : List ℕ
  pub stands : Stands (closed_string kind) closed tail
  pub all : text ≡ closed ++ tail

pub string_cancel : (kind : StringKind) (a b : List ℕ) → string_front kind ++ a ≡ string_front kind ++ b → a ≡ b
string_cancel kinds.Plain a b e = cc
string_cancel kinds.Byte a b e = cc
string_cancel kinds.C a b e = cc

unfoldable pub place_of : (kind : StringKind) (e : EscapeError) (f p r : List ℕ) → IsBadString kind e f p r
    → IsPlace kind e (f ++ (p ++ r))
place_of kind e f p r is =
    let content : List ℕ = (is.start ++ p) ++ is.left in
    let opens = is.stands in
    let inner = opens.second in
    let many = inner.first in
    let rest : is.start ++ (p ++ r) ≡ content ++ (34 ∷ is.tail) =
    ap (λ t. is.start ++ (p ++ t)) is.back
    ∙ (sym (append_assoc is.start p (is.left ++ (34 ∷ is.tail)))
    ∙ sym (append_assoc (is.start ++ p) is.left (34 ∷ is.tail))) in
    let units : is.units ≡ string_front kind ++ concat many.units =
    opens.whole ∙ ap₂ (λ a b. a ++ b) opens.first
    (inner.whole ∙ (ap (λ t. inner.front ++ t) inner.second ∙ (append-nil inner.front ∙ many.whole))) in
    let each : Each (Stands (unit kind)) many.units (content ++ (34 ∷ is.tail)) =
    subst (Each (Stands (unit kind)) many.units)
    (ap (λ t. t ++ (is.start ++ (p ++ r))) inner.second ∙ rest) many.each in
    let whole : f ++ (p ++ r) ≡ string_front kind ++ (concat many.units ++ (content ++ (34 ∷ is.tail))) =
    ap (λ t. t ++ (p ++ r)) is.front
    ∙ (append_assoc is.units is.start (p ++ r)
    ∙ (ap₂ (λ a b. a ++ b) units rest
    ∙ append_assoc (string_front kind) (concat many.units) (content ++ (34 ∷ is.tail)))) in
    let closed = is.closed in
    let body = closed.second in
    let pairs = body.first in
    let joined : (concat many.units ++ content) ++ (34 ∷ is.tail) ≡ body.front ++ (34 ∷ is.tail) =
    append_assoc (concat many.units) content (34 ∷ is.tail)
    ∙ string_cancel kind _ _ (sym whole ∙ (closed_whole kind e f p r is
    ∙ (ap (λ t. t ++ is.tail) (closed.whole ∙ ap₂ (λ a b. a ++ b) closed.first
    (body.whole ∙ ap (λ t. body.front ++ t) body.second))
    ∙ (append_assoc (string_front kind) (body.front ++ codes "\"") is.tail
    ∙ ap (λ t. string_front kind ++ t) (append_assoc body.front (codes "\"") is.tail))))) in
    let same : concat many.units ++ content ≡ concat pairs.units =
    append_cancel_right _ _ (34 ∷ is.tail) joined ∙ pairs.whole in
    let paired : Paired content =
    past_units kind many.units (content ++ (34 ∷ is.tail)) content each
    (subst Paired (sym same) (paired_of pairs.units (body.back ++ is.tail) pairs.each)) in
    record {
      units = many.units;
      content = content;
      left = is.left;
      tail = is.tail;
      whole = whole;
      each = each;
      none = no_unit_at kind e content is.left is.tail is.gives paired
          (ap (begins_any line_ends) (sym rest) ∙ is.apart);
      gives = is.gives;
      paired = paired;
      closed = f ++ (p ++ (is.left ++ codes "\""));
      stands = closed;
      all = closed_whole kind e f p r is;
    }

-- the error that was read is determined
pub one_fault : {U : Type 0} (read : Read U) (e o : EscapeError) (left rest : List ℕ) → read ≡ fault e left
    → read ≡ fault o rest → e ≡ o
one_fault {U = U} read e o left rest is other =
    let same : ◌≡◌ {A = Result U EscapeError} (Err e) (Err o) = ap (λ r. r.unit) (sym is ∙ other) in cc

one_given : {U : Type 0} (kind : Kind U) (e o : EscapeError) (content left rest : List ℕ)
    → GivesFault kind e content left → GivesFault kind o content rest → e ≡ o
one_given kind e o [] left rest is other = absurd is
one_given kind e o (c ∷ text) left rest is other = one_fault (unit_front kind c text) e o left rest is other

one_string_fault : (kind : StringKind) (e o : EscapeError) (content left rest : List ℕ)
    → StringFault kind e content left → StringFault kind o content rest → e ≡ o
one_string_fault kinds.Plain = one_given string_kind
one_string_fault kinds.Byte = one_given byte_kind
one_string_fault kinds.C = one_given c_kind

-- the content and the text after it are determined
pub one_rest : (kind : StringKind) (e o : EscapeError) (text : List ℕ) (is : IsPlace kind e text)
    (other : IsPlace kind o text) → (is.content ≡ other.content) × (is.tail ≡ other.tail)
one_rest kind e o text is other =
    let rest : is.content ++ (34 ∷ is.tail) ≡ other.content ++ (34 ∷ other.tail) =
    many_stop (unit kind) (clear_body kind).0 is.units other.units _ _ is.each other.each
    (string_cancel kind _ _ (sym is.whole ∙ other.whole)) is.none other.none in
    let tail : is.tail ≡ other.tail =
    (one_split (closed_string kind) (assumption) is.closed other.closed is.tail other.tail is.stands other.stands
    (sym is.all ∙ other.all)).1 in (
      append_cancel_right _ _ (34 ∷ other.tail) (ap (λ t. is.content ++ (34 ∷ t)) (sym tail) ∙ rest),
      tail,
    )

one_place : (kind : StringKind) (e o : EscapeError) (text : List ℕ) → IsPlace kind e text → IsPlace kind o text → e ≡ o
one_place kind e o text is other =
    one_string_fault kind e o other.content is.left other.left
    (subst (λ t. StringFault kind e t is.left) (one_rest kind e o text is other).0 is.gives) other.gives

pub place_front : (kind : StringKind) (e : EscapeError) (text : List ℕ) → IsPlace kind e text
    → front_of text ≡ Quotes kind
place_front kind e text is = quotes_front kind text _ is.whole

pub same_quotes : (a b : StringKind) (text : List ℕ) → front_of text ≡ Quotes a → front_of text ≡ Quotes b → a ≡ b
same_quotes a b text is other = let same : Quotes a ≡ Quotes b = sym is ∙ other in cc

one_string : (a b : StringKind) (e o : EscapeError) (text : List ℕ) → IsPlace a e text → IsPlace b o text → e ≡ o
one_string a b e o text is other =
    one_place b e o text
    (subst (λ k. IsPlace k e text) (same_quotes a b text (place_front a e text is) (place_front b o text other)) is)
    other

-- ---- raw strings

pub record IsRawPlace (kind : StringKind) (e : EscapeError) (text : List ℕ) : Type 0 where
  pub signed : IsSigned kind text
  pub units : List (List ℕ)
  pub character : ℕ
  pub more : List ℕ
  pub rest : signed.rest ≡ 34 ∷ (concat units ++ (character ∷ more))
  pub each : Each (Stands (raw_strings.raw_unit (may_stand_raw kind) (34 ∷ signed.signs))) units (character ∷ more)
  pub apart : begins_with (codes "\r\n") (character ∷ more) ≡ false
  pub gives : raw_character kind character ≡ Err e

unfoldable pub raw_place_of : (kind : StringKind) (e : EscapeError) (f p r : List ℕ) → IsBadRaw kind e f p r
    → IsRawPlace kind e (f ++ (p ++ r))
raw_place_of kind e f p r is =
    let letters = is.stands in
    let signs = letters.second in
    let quote = signs.second in
    let inner = quote.second in
    let many = inner.first in
    let last : p ++ r ≡ is.character ∷ r = ap (λ t. t ++ r) is.one in
    let back : quote.back ≡ concat many.units =
    inner.whole ∙ (ap (λ t. inner.front ++ t) inner.second ∙ (append-nil inner.front ∙ many.whole)) in
    let rest : List ℕ = 34 ∷ (concat many.units ++ (is.character ∷ r)) in
    let tail : signs.back ++ (p ++ r) ≡ rest =
    ap₂ (λ a b. a ++ b) (quote.whole ∙ ap₂ (λ a b. a ++ b) quote.first back) last in
    record {
      signed = record {
        signs = signs.front;
        rest = rest;
        whole = ap (λ t. t ++ (p ++ r)) (letters.whole ∙ ap₂ (λ a b. a ++ b) letters.first signs.whole)
            ∙ (append_assoc (raw_front kind) (signs.front ++ signs.back) (p ++ r)
            ∙ ap (λ t. raw_front kind ++ t) (append_assoc signs.front signs.back (p ++ r)
            ∙ ap (λ t. signs.front ++ t) tail));
        run = record { each = signs.first.0.each; stops = refl };
      };
      units = many.units;
      character = is.character;
      more = r;
      rest = refl;
      each = subst (Each (Stands (raw_strings.raw_unit (may_stand_raw kind) (34 ∷ signs.front))) many.units)
          (ap₂ (λ a b. a ++ b) inner.second last) many.each;
      apart = ap (begins_with (codes "\r\n")) (sym last) ∙ is.apart;
      gives = is.gives;
    }

-- for a character that may be in a raw string, the escaper reads a unit
pub raw_taken : (kind : StringKind) (c : ℕ) → may_stand_raw kind c ≡ true → (c == 13) ≡ false
    → (u : ℕ) × (raw_character kind c ≡ Ok u)
raw_taken kinds.Plain c may plain = (c, cond-false _ _ _ plain)
raw_taken kinds.Byte c may plain = (c, cond-false _ _ _ plain ∙ cond-true _ _ _ may)
raw_taken kinds.C c may plain = (c, cond-false _ _ _ plain ∙ cond-false _ _ _ (not-true _ may))

no_raw_fault : (kind : StringKind) (c : ℕ) (e : EscapeError) → (may_stand_raw kind c && not (c == 13)) ≡ true
    → raw_character kind c ≡ Err e → ⊥
no_raw_fault kind c e may is =
    let parts = and_parts (may_stand_raw kind c) (not (c == 13)) may in
    let taken = raw_taken kind c parts.0 (not-true _ parts.1) in
    let clash : ◌≡◌ {A = Result ℕ EscapeError} (Ok taken.0) (Err e) = sym taken.1 ∙ is in
    cc

pub no_raw_unit : (kind : StringKind) (close : List ℕ) (e : EscapeError) (c : ℕ) (more : List ℕ)
    → begins_with (codes "\r\n") (c ∷ more) ≡ false → raw_character kind c ≡ Err e
    → HasNone (Stands (raw_strings.raw_unit (may_stand_raw kind) close)) (c ∷ more)
no_raw_unit kind close e c more apart gives p r split (inl one, here) =
    let same : c ∷ more ≡ one.0 ∷ r = split ∙ ap (λ t. t ++ r) one.1 in
    let first : one.0 ≡ c = cc in
    no_raw_fault kind c e (ap (λ d. may_stand_raw kind d && not (d == 13)) (sym first) ∙ one.2) gives
no_raw_unit kind close e c more apart gives p r split (inr newline, here) =
    both_ways _ apart (ap (begins_with (codes "\r\n")) (split ∙ ap (λ t. t ++ r) newline))

pub one_raw_rest : (kind : StringKind) (e o : EscapeError) (text : List ℕ) (is : IsRawPlace kind e text)
    (other : IsRawPlace kind o text) → is.character ∷ is.more ≡ other.character ∷ other.more
one_raw_rest kind e o text is other =
    let signs = one_signed kind text is.signed other.signed in
    let body : 34 ∷ (concat is.units ++ (is.character ∷ is.more))
    ≡ 34 ∷ (concat other.units ++ (other.character ∷ other.more)) =
    sym is.rest ∙ (signs.1 ∙ other.rest) in
    let inner : concat is.units ++ (is.character ∷ is.more)
    ≡ concat other.units ++ (other.character ∷ other.more) = cc in
    let close : List ℕ = 34 ∷ other.signed.signs in
    many_stop (raw_strings.raw_unit (may_stand_raw kind) close) (clear_raw_body kind close).0 is.units other.units _ _
    (subst (λ s. Each (Stands (raw_strings.raw_unit (may_stand_raw kind) (34 ∷ s))) is.units (is.character ∷ is.more))
    signs.0 is.each)
    other.each inner
    (no_raw_unit kind close e is.character is.more is.apart is.gives)
    (no_raw_unit kind close o other.character other.more other.apart other.gives)

one_raw_place : (kind : StringKind) (e o : EscapeError) (text : List ℕ) → IsRawPlace kind e text
    → IsRawPlace kind o text → e ≡ o
one_raw_place kind e o text is other =
    let same : is.character ∷ is.more ≡ other.character ∷ other.more = one_raw_rest kind e o text is other in
    let first : is.character ≡ other.character = cc in
    let both : ◌≡◌ {A = Result ℕ EscapeError} (Err e) (Err o) =
    sym is.gives ∙ (ap (raw_character kind) first ∙ other.gives) in
    cc

pub same_letters : (a b : StringKind) (text : List ℕ) → front_of text ≡ Letters a → front_of text ≡ Letters b → a ≡ b
same_letters a b text is other = let same : Letters a ≡ Letters b = sym is ∙ other in cc

one_raw : (a b : StringKind) (e o : EscapeError) (text : List ℕ) → IsRawPlace a e text → IsRawPlace b o text → e ≡ o
one_raw a b e o text is other =
    one_raw_place b e o text
    (subst (λ k. IsRawPlace k e text)
    (same_letters a b text (letters_front a text _ is.signed.whole) (letters_front b text _ other.signed.whole)) is)
    other

-- ---- characters and bytes

-- the text between the quotes of a character with a name in it matches one of these rules
pub named_of : (p r : List ℕ) → Stands closed_named p r
    → Stands raw_named p r ⊎ (Stands plain_named p r ⊎ Stands digit_named p r)
named_of p r (inl is) = inl is
named_of p r (inr is) = elim is.second.first [
  | inl named ↦ inr (inl (record {
    front = is.front;
    back = is.back;
    whole = is.whole;
    first = is.first;
    second = record {
      front = is.second.front;
      back = is.second.back;
      whole = is.second.whole;
      first = named;
      second = is.second.second;
    };
  }))
  | inr digits ↦ inr (inr (record {
    front = is.front;
    back = is.back;
    whole = is.whole;
    first = is.first;
    second = record {
      front = is.second.front;
      back = is.second.back;
      whole = is.second.whole;
      first = digits;
      second = is.second.second;
    };
  }))
]

module _ (text p r : List ℕ) (e : text ≡ p ++ r) where
  pub raw_text : Stands raw_named p r → (rest : List ℕ) × (text ≡ 39 ∷ 114 ∷ 35 ∷ rest)
  raw_text is = (_, e ∙ ap (λ t. t ++ r) (is.whole ∙ ap (λ t. t ++ is.back) is.first))

  -- the text after the first quote, up to the second
  quoted_text : (front back rest : List ℕ) → p ≡ front ++ back → front ≡ codes "'" → back ≡ rest ++ codes "'"
      → text ≡ 39 ∷ (rest ++ (39 ∷ r))
  quoted_text front back rest whole first last =
      e ∙ (ap (λ t. t ++ r) (whole ∙ ap₂ (λ a b. a ++ b) first last)
      ∙ ap (λ t. 39 ∷ t) (append_assoc rest (codes "'") r))

  pub plain_text : Stands plain_named p r
      → (c : ℕ) × (more : List ℕ) × (text ≡ 39 ∷ c ∷ (more ++ (39 ∷ r))) × (is_ident_start c ≡ true)
      × Stands (Run is_ident_continue) more (39 ∷ r)
  plain_text is =
      let inner = is.second in
      let named : Stands name inner.front (39 ∷ r) =
      subst (λ t. Stands name inner.front (t ++ r)) inner.second inner.first in
      let first = name_first inner.front (39 ∷ r) named in (
        first.0,
        first.1,
        quoted_text is.front is.back inner.front is.whole is.first
            (inner.whole ∙ ap (λ t. inner.front ++ t) inner.second)
            ∙ ap (λ t. 39 ∷ (t ++ (39 ∷ r))) first.2,
        first.3,
        first.4,
      )

  pub digit_text : Stands digit_named p r
      → (c : ℕ) × (rest : List ℕ) × (text ≡ 39 ∷ c ∷ rest) × (is_ascii_digit c ≡ true)
  digit_text is =
      let inner = is.second in
      let one = inner.first.first in (
        one.0,
        _,
        quoted_text is.front is.back inner.front is.whole is.first
            (inner.whole ∙ ap (λ t. inner.front ++ t) inner.second)
            ∙ ap (λ t. 39 ∷ (t ++ (39 ∷ r))) (inner.first.whole ∙ ap (λ t. t ++ inner.first.back) one.1),
        one.2,
      )

module _ (text p q r s : List ℕ) (e : text ≡ p ++ r) (o : text ≡ q ++ s) where
  not_raw_plain : Stands raw_named p r → Stands plain_named q s → ⊥
  not_raw_plain is other =
      let raw = raw_text text p r e is in
      let plain = plain_text text q s o other in
      let same : 39 ∷ 114 ∷ 35 ∷ raw.0 ≡ 39 ∷ plain.0 ∷ (plain.1 ++ (39 ∷ s)) = sym raw.1 ∙ plain.2 in
      let rest : plain.1 ++ (39 ∷ s) ≡ 35 ∷ raw.0 = cc in
      stops_at_hash plain.1 raw.0 s plain.4 rest

  not_raw_digit : Stands raw_named p r → Stands digit_named q s → ⊥
  not_raw_digit is other =
      let raw = raw_text text p r e is in
      let digit = digit_text text q s o other in
      let same : 39 ∷ 114 ∷ 35 ∷ raw.0 ≡ 39 ∷ digit.0 ∷ digit.1 = sym raw.1 ∙ digit.2 in
      let first : digit.0 ≡ 114 = cc in
      both_ways (is_ascii_digit 114) refl (ap is_ascii_digit (sym first) ∙ digit.3)

  not_plain_digit : Stands plain_named p r → Stands digit_named q s → ⊥
  not_plain_digit is other =
      let plain = plain_text text p r e is in
      let digit = digit_text text q s o other in
      let same : 39 ∷ plain.0 ∷ (plain.1 ++ (39 ∷ r)) ≡ 39 ∷ digit.0 ∷ digit.1 = sym plain.2 ∙ digit.2 in
      let first : digit.0 ≡ plain.0 = cc in
      no_both plain.0 plain.3 (ap is_ascii_digit (sym first) ∙ digit.3)

pub one_named : (text p q r s : List ℕ) → text ≡ p ++ r → text ≡ q ++ s
    → Stands raw_named p r ⊎ (Stands plain_named p r ⊎ Stands digit_named p r)
    → Stands raw_named q s ⊎ (Stands plain_named q s ⊎ Stands digit_named q s)
    → p ≡ q
one_named text p q r s e o (inl is) (inl other) =
    (one_split raw_named (assumption) p q r s is other (sym e ∙ o)).0
one_named text p q r s e o (inl is) (inr (inl other)) = absurd (not_raw_plain text p q r s e o is other)
one_named text p q r s e o (inl is) (inr (inr other)) = absurd (not_raw_digit text p q r s e o is other)
one_named text p q r s e o (inr (inl is)) (inl other) = absurd (not_raw_plain text q p s r o e other is)
one_named text p q r s e o (inr (inl is)) (inr (inl other)) =
    (one_split plain_named (assumption) p q r s is other (sym e ∙ o)).0
one_named text p q r s e o (inr (inl is)) (inr (inr other)) = absurd (not_plain_digit text p q r s e o is other)
one_named text p q r s e o (inr (inr is)) (inl other) = absurd (not_raw_digit text q p s r o e other is)
one_named text p q r s e o (inr (inr is)) (inr (inl other)) = absurd (not_plain_digit text q p s r o e other is)
one_named text p q r s e o (inr (inr is)) (inr (inr other)) =
    (one_split digit_named (assumption) p q r s is other (sym e ∙ o)).0

-- a text has no character of both rules `closed_single` and `closed_named`
not_single_named : (text rest p q r s : List ℕ) → text ≡ 39 ∷ rest → text ≡ p ++ r → text ≡ q ++ s
    → Stands closed_single p r → Stands closed_named q s → ⊥
not_single_named text rest p q r s lone e o is other =
    no_opening text rest lone (named_bars text rest lone (named_is text q s o other)) is.front (is.back ++ r)
    (e ∙ (ap (λ t. t ++ r) is.whole ∙ append_assoc is.front is.back r)) is.first

pub one_character : (text rest p q r s : List ℕ) → text ≡ 39 ∷ rest → text ≡ p ++ r → text ≡ q ++ s
    → Stands closed_character p r → Stands closed_character q s → p ≡ q
one_character text rest p q r s lone e o (inl is) (inl other) =
    (one_split closed_single (assumption) p q r s is other (sym e ∙ o)).0
one_character text rest p q r s lone e o (inl is) (inr other) =
    absurd (not_single_named text rest p q r s lone e o is other)
one_character text rest p q r s lone e o (inr is) (inl other) =
    absurd (not_single_named text rest q p s r lone o e other is)
one_character text rest p q r s lone e o (inr is) (inr other) =
    one_named text p q r s e o (named_of p r is) (named_of q s other)

-- a byte literal never has a name in it by the rule `closed_named`
pub byte_single : (text rest p r : List ℕ) → text ≡ codes "b'" ++ rest → text ≡ p ++ r → Stands closed_character p r
    → Stands closed_single p r
byte_single text rest p r byte e (inl is) = is
byte_single text rest p r byte e (inr is) =
    absurd (bars_sound (codes "b'") closed_named refl rest p r is (sym e ∙ byte))

-- the text begins with a character literal that is closed, with an error in its content
pub record IsSinglePlace (kind : SingleKind) (e : EscapeError) (text : List ℕ) : Type 0 where
  pub content : List ℕ
  pub left : List ℕ
  pub tail : List ℕ
  pub whole : text ≡ (single_front kind ++ (content ++ codes "'")) ++ tail
  pub closed : Stands closed_character (single_front kind ++ (content ++ codes "'")) tail
  pub gives : SingleFault kind e content left

unfoldable pub single_place_of : (kind : SingleKind) (e : EscapeError) (f p r : List ℕ) → IsBadSingle kind e f p r
    → IsSinglePlace kind e (f ++ (p ++ r))
single_place_of kind e f p r is = record {
  content = is.content;
  left = is.left;
  tail = is.tail;
  whole = is.whole;
  closed = is.closed;
  gives = is.gives;
}

one_single_fault : (kind : SingleKind) (e o : EscapeError) (content left rest : List ℕ)
    → SingleFault kind e content left → SingleFault kind o content rest → e ≡ o
one_single_fault singles.Character e o content left rest = one_fault (single string_kind content) e o left rest
one_single_fault singles.Byte e o content left rest = one_fault (single byte_kind content) e o left rest

pub one_single_content : (kind : SingleKind) (text : List ℕ) (e o : EscapeError) (is : IsSinglePlace kind e text)
    (other : IsSinglePlace kind o text) → is.content ≡ other.content
one_single_content singles.Character text e o is other =
    let same : 39 ∷ (is.content ++ codes "'") ≡ 39 ∷ (other.content ++ codes "'") =
    one_character text _ _ _ is.tail other.tail is.whole is.whole other.whole is.closed other.closed in
    let rest : is.content ++ codes "'" ≡ other.content ++ codes "'" = cc in
    append_cancel_right _ _ (codes "'") rest
one_single_content singles.Byte text e o is other =
    let same : 98 ∷ 39 ∷ (is.content ++ codes "'") ≡ 98 ∷ 39 ∷ (other.content ++ codes "'") =
    (one_split closed_single (assumption) _ _ is.tail other.tail
    (byte_single text _ _ is.tail is.whole is.whole is.closed)
    (byte_single text _ _ other.tail other.whole other.whole other.closed) (sym is.whole ∙ other.whole)).0 in
    let rest : is.content ++ codes "'" ≡ other.content ++ codes "'" = cc in
    append_cancel_right _ _ (codes "'") rest

one_single_place : (kind : SingleKind) (e o : EscapeError) (text : List ℕ) → IsSinglePlace kind e text
    → IsSinglePlace kind o text → e ≡ o
one_single_place kind e o text is other =
    one_single_fault kind e o other.content is.left other.left
    (subst (λ t. SingleFault kind e t is.left) (one_single_content kind text e o is other) is.gives) other.gives

abbrev pub single_begins : SingleKind → Front
single_begins singles.Character = Lone
single_begins singles.Byte = Bytes

pub single_place_front : (kind : SingleKind) (e : EscapeError) (text : List ℕ) → IsSinglePlace kind e text
    → front_of text ≡ single_begins kind
single_place_front singles.Character e text is = ap front_of is.whole
single_place_front singles.Byte e text is = ap front_of is.whole

pub same_singles : (a b : SingleKind) (text : List ℕ) → front_of text ≡ single_begins a
    → front_of text ≡ single_begins b → a ≡ b
same_singles singles.Character singles.Character text is other = refl
same_singles singles.Byte singles.Byte text is other = refl
same_singles singles.Character singles.Byte text is other =
    let clash : Lone ≡ Bytes = sym is ∙ other in absurd (cc)
same_singles singles.Byte singles.Character text is other =
    let clash : Bytes ≡ Lone = sym is ∙ other in absurd (cc)

one_single : (a b : SingleKind) (e o : EscapeError) (text : List ℕ) → IsSinglePlace a e text → IsSinglePlace b o text
    → e ≡ o
one_single singles.Character singles.Character e o text is other = one_single_place _ e o text is other
one_single singles.Byte singles.Byte e o text is other = one_single_place _ e o text is other
one_single singles.Character singles.Byte e o text is other =
    let clash : Lone ≡ Bytes =
    sym (single_place_front singles.Character e text is) ∙ single_place_front singles.Byte o text other in
    absurd (cc)
one_single singles.Byte singles.Character e o text is other =
    let clash : Bytes ≡ Lone =
    sym (single_place_front singles.Byte e text is) ∙ single_place_front singles.Character o text other in
    absurd (cc)

-- ---- all literals

-- the text begins with a literal that is closed, whose content has this error
abbrev IsContentPlace : EscapeError → List ℕ → Type 0
IsContentPlace e text =
    ((kind : StringKind) × IsPlace kind e text)
    ⊎ (((kind : StringKind) × IsRawPlace kind e text) ⊎ ((kind : SingleKind) × IsSinglePlace kind e text))

content_place_of : (e : EscapeError) (f p r : List ℕ) → IsBadContent e f p r → IsContentPlace e (f ++ (p ++ r))
content_place_of e f p r (inl is) = inl (is.0, place_of is.0 e f p r is.1)
content_place_of e f p r (inr (inl is)) = inr (inl (is.0, raw_place_of is.0 e f p r is.1))
content_place_of e f p r (inr (inr is)) = inr (inr (is.0, single_place_of is.0 e f p r is.1))

pub not_quotes_letters : (a b : StringKind) (text : List ℕ) → front_of text ≡ Quotes a → front_of text ≡ Letters b → ⊥
not_quotes_letters a b text is other = let clash : Quotes a ≡ Letters b = sym is ∙ other in cc

pub not_quotes_single : (a : StringKind) (b : SingleKind) (text : List ℕ) → front_of text ≡ Quotes a
    → front_of text ≡ single_begins b → ⊥
not_quotes_single a singles.Character text is other = let clash : Quotes a ≡ Lone = sym is ∙ other in cc
not_quotes_single a singles.Byte text is other = let clash : Quotes a ≡ Bytes = sym is ∙ other in cc

pub not_letters_single : (a : StringKind) (b : SingleKind) (text : List ℕ) → front_of text ≡ Letters a
    → front_of text ≡ single_begins b → ⊥
not_letters_single a singles.Character text is other = let clash : Letters a ≡ Lone = sym is ∙ other in cc
not_letters_single a singles.Byte text is other = let clash : Letters a ≡ Bytes = sym is ∙ other in cc

pub raw_place_front : (kind : StringKind) (e : EscapeError) (text : List ℕ) → IsRawPlace kind e text
    → front_of text ≡ Letters kind
raw_place_front kind e text is = letters_front kind text _ is.signed.whole

one_content_place : (e o : EscapeError) (text : List ℕ) → IsContentPlace e text → IsContentPlace o text → e ≡ o
one_content_place e o text (inl is) (inl other) = one_string is.0 other.0 e o text is.1 other.1
one_content_place e o text (inl is) (inr (inl other)) =
    absurd (not_quotes_letters is.0 other.0 text (place_front is.0 e text is.1)
    (raw_place_front other.0 o text other.1))
one_content_place e o text (inl is) (inr (inr other)) =
    absurd (not_quotes_single is.0 other.0 text (place_front is.0 e text is.1)
    (single_place_front other.0 o text other.1))
one_content_place e o text (inr (inl is)) (inl other) =
    absurd (not_quotes_letters other.0 is.0 text (place_front other.0 o text other.1)
    (raw_place_front is.0 e text is.1))
one_content_place e o text (inr (inl is)) (inr (inl other)) = one_raw is.0 other.0 e o text is.1 other.1
one_content_place e o text (inr (inl is)) (inr (inr other)) =
    absurd (not_letters_single is.0 other.0 text (raw_place_front is.0 e text is.1)
    (single_place_front other.0 o text other.1))
one_content_place e o text (inr (inr is)) (inl other) =
    absurd (not_quotes_single other.0 is.0 text (place_front other.0 o text other.1)
    (single_place_front is.0 e text is.1))
one_content_place e o text (inr (inr is)) (inr (inl other)) =
    absurd (not_letters_single other.0 is.0 text (raw_place_front other.0 o text other.1)
    (single_place_front is.0 e text is.1))
one_content_place e o text (inr (inr is)) (inr (inr other)) = one_single is.0 other.0 e o text is.1 other.1

pub one_content : (e o : EscapeError) (f p r g q s : List ℕ) → IsBadContent e f p r → IsBadContent o g q s
    → f ++ (p ++ r) ≡ g ++ (q ++ s) → e ≡ o
one_content e o f p r g q s is other same =
    one_content_place e o (g ++ (q ++ s)) (subst (IsContentPlace e) same (content_place_of e f p r is))
    (content_place_of o g q s other)
