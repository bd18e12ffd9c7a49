-- The piece at the start of a text, decided by a few bytes.
use Rattle.std.proofs.Common.{◌≡◌, ℕ, ◌<◌, ◌≤◌, Bool, true, false, not, ◌&&◌, ◌||◌, ◌==◌, inl, inr, List, [], ◌∷◌}
use Rattle.std.proofs.Common.{◌++◌, None, Bor, codes, length, get_or, take, drop, nat_lt, refl, sym, ap, ◌∙◌}
use Rattle.std.proofs.Common.{subst, arith, append-nil, eqb-true, eq-eqb, ne_eqb, length-append, ltb-true}
use Rattle.std.specs.Char.{is_ascii_digit}
use Rattle.std.specs.List.{list_all}
use Rattle.std.specs.Str.{chars, IsUtf8, IsCharBoundary, encode_utf8_all}
use Rattle.std.proofs.lemmas.Bool.{both_ways, cases_lt, and_parts, and_from, and_left, and_right, or_cases}
use Rattle.std.proofs.lemmas.Bool.{or_left, or_parts, or_from}
use Rattle.std.proofs.lemmas.Bool.{false_from_ne_true, not-true, not_from_false, cond-true, cond-false, le-ltb, lt-ltb}
use Rattle.std.proofs.lemmas.List.{length-take-le, take-append-drop, get_or-drop, take_at, drop_at}
use Rattle.std.proofs.lemmas.Str.{encode_ascii, encodes-chars, IsUtf8-from_ascii, IsUtf8-drop, IsCharBoundary-from_take}
use Rattle.std.proofs.lemmas.Str.{chars-append, chars-IsAscii, chars-nil}
use Rattle.unicode_ident.proofs.Computing.{unicode_ident}
use Rattle.lexical.specs.Ascii.{all_ascii}
use Rattle.lexical.specs.Bytes.{ascii_in, is_in}
use Rattle.lexical.specs.Class.{is_ident_start, is_ident_continue}
use Rattle.lexical.specs.Finder.{while_front, while_rest}
use Rattle.lexical.specs.Form.{Form}
use Rattle.lexical.specs.Found.{kind_of, LendsText, IsPieceAt}
use Rattle.lexical.specs.Identifier.{Identifier, literal_prefixes, name as plain_name}
use Rattle.lexical.specs.Literal.{Literal}
use Rattle.lexical.specs.Mark.{FollowsQuote, is_mark, marks, bars_quote, comment_fronts, joint_before}
use Rattle.lexical.specs.Number.{Number, is_digit_or_underscore, number, digits, base_prefixes, float, float_tail}
use Rattle.lexical.specs.Number.{fraction, dot, exponent, is_exponent_letter, end}
use Rattle.lexical.specs.Piece.{IsPiece}
use Rattle.lexical.specs.Quick.{byte_starts, IsAsciiAt, UnbarredName}
use Rattle.lexical.specs.Rule.{One, Then, find, Stands}
use Rattle.lexical.specs.Text.{begins_with, begins_any, first_passes}
use Rattle.lexical.specs.declared.bytes.Class.{Class}
use Rattle.lexical.specs.declared.bytes.Class.TheVariants as classes
use Rattle.lexical.specs.declared.class.PieceStart.TheVariants as starts
use Rattle.lexical.specs.declared.piece.Piece.{Piece}
use Rattle.lexical.specs.declared.piece.PieceKind.{PieceKind}
use Rattle.lexical.specs.declared.piece.PieceKind.TheVariants as kinds
use Rattle.lexical.proofs.ByteLemmas.{all_low}
use Rattle.lexical.proofs.ClassLemmas.{of_start, mark_not_quote, mark_plain, sub_listed, start_of_low}
use Rattle.lexical.proofs.FinderLemmas.{finds_run, none_is}
use Rattle.lexical.proofs.NumberFinderLemmas.{finds_digits}
use Rattle.lexical.proofs.PieceFacts.{none_begins, start_continues}
use Rattle.lexical.proofs.QuotedLemmas.{no_name}
use Rattle.lexical.proofs.RuleLemmas.{Clear, exact}
use Rattle.lexical.proofs.RuleSteps.{find_then, find_either, find_not_before, text_lacks, then_lacks}
use Rattle.lexical.proofs.TextLemmas.{all_pass, any_cut, ascii_bytes, first_byte, is_ascii}

-- ---- ASCII at the start

ascii_cut : (text : List ℕ) (n : ℕ) → IsUtf8 text → n ≤ length text → all_ascii (take n text) ≡ true
    → IsCharBoundary text n
ascii_cut text n utf8 within ascii =
    IsCharBoundary-from_take text n utf8 within (IsUtf8-from_ascii (take n text) (is_ascii (take n text) ascii))

ascii_rest : (text : List ℕ) (n : ℕ) → IsUtf8 text → n ≤ length text → all_ascii (take n text) ≡ true
    → IsUtf8 (drop n text)
ascii_rest text n utf8 within ascii = IsUtf8-drop text n utf8 (ascii_cut text n utf8 within ascii)

pub ascii_split : (text : List ℕ) (n : ℕ) → all_ascii (take n text) ≡ true
    → chars text ≡ take n text ++ chars (drop n text)
ascii_split text n ascii =
    let bytes = is_ascii (take n text) ascii in
    ap chars (sym (take-append-drop n text))
    ∙ (chars-append (take n text) (drop n text) (IsUtf8-from_ascii (take n text) bytes)
    ∙ ap (λ x. x ++ chars (drop n text)) (chars-IsAscii (take n text) bytes))

pub fast_cut : (A : Form) (text : List ℕ) (n : ℕ) → IsUtf8 text → IsAsciiAt A text n → IsCharBoundary text n
fast_cut A text n utf8 at = ascii_cut text n utf8 at.within at.ascii

pub fast_utf8 : (A : Form) (text : List ℕ) (n : ℕ) → IsAsciiAt A text n → IsUtf8 (take n text)
fast_utf8 A text n at = IsUtf8-from_ascii (take n text) (is_ascii (take n text) at.ascii)

-- n ASCII bytes that are a piece make a `Piece` of n bytes and n characters
pub ascii_piece : (first : Bool) (text : List ℕ) (kind : PieceKind) (piece : Piece) (n : ℕ)
    → IsAsciiAt (λ p r. IsPiece first (kind_of kind p) p r) text n → LendsText kind → piece.kind ≡ kind
    → piece.bytes ≡ n → piece.chars ≡ n → IsPieceAt first (chars text) piece
ascii_piece first text kind piece n at lends same bytes count =
    let size : n ≡ length (take n text) = sym (length-take-le n text at.within) in
    record {
      front = take n text;
      rest = chars (drop n text);
      whole = ascii_split text n at.ascii;
      stands = subst (λ k. IsPiece first (kind_of k (take n text)) (take n text) (chars (drop n text))) (sym same)
          at.stands;
      bytes = bytes ∙ (size ∙ sym (ascii_bytes (take n text) at.ascii));
      chars = count ∙ size;
      lends = subst LendsText (sym same) lends;
    }

-- a piece of a form is a piece of each form that has the same pieces
pub at_other : (A B : Form) (text : List ℕ) (n : ℕ) → ((p r : List ℕ) → A p r → B p r) → IsAsciiAt A text n
    → IsAsciiAt B text n
at_other A B text n to at = record { within = at.within; ascii = at.ascii; stands = to _ _ at.stands }

-- one ASCII byte that is a piece of the form
pub one_ascii : (A : Form) (text : List ℕ) (c : ℕ) → 0 < length text → get_or text 0 0 ≡ c → c < 128
    → A (c ∷ []) (chars (drop 1 text)) → IsAsciiAt A text 1
one_ascii A [] c some e low stands = absurd (omega (arith, some))
one_ascii A (b ∷ text) c some e low stands = record {
  within = omega arith;
  ascii = and_from _ _ (lt-ltb b 128 (omega arith)) refl;
  stands = subst (λ d. A (d ∷ []) (chars text)) (sym e) stands;
}

one_rest : (text : List ℕ) → IsUtf8 text → 0 < length text → get_or text 0 0 < 128 → IsUtf8 (drop 1 text)
one_rest [] utf8 some low = utf8
one_rest (b ∷ text) utf8 some low =
    ascii_rest (b ∷ text) 1 utf8 (omega arith) (and_from _ _ (lt-ltb b 128 (omega arith)) refl)

-- ---- the text after a piece

-- the first byte of a text shows whether its first character passes, if all characters past ASCII pass or none does
first_of_bytes : (test : ℕ → Bool) (beyond : Bool) → ((c : ℕ) → 128 ≤ c → test c ≡ beyond) → (text : List ℕ)
    → IsUtf8 text → first_passes test (chars text) ≡ first_passes test text
first_of_bytes test beyond high text utf8 = by_chars (chars text) ∙ ap (first_passes test) (encodes-chars text utf8)
  where
    by_chars : (cs : List ℕ) → first_passes test cs ≡ first_passes test (encode_utf8_all cs)
    by_chars [] = refl
    by_chars (c ∷ cs) = elim (cases_lt c 128) [
      | inl ascii ↦ rw (encode_ascii c ascii) refl
      | inr past ↦ let cell = first_byte c past in rw cell.2 (high c past ∙ sym (high cell.0 cell.3))
    ]

first_get : (test : ℕ → Bool) (text : List ℕ) → test (get_or text 0 32) ≡ false → first_passes test text ≡ false
first_get test [] fails = refl
first_get test (b ∷ text) fails = fails

-- if the first byte is ASCII and does not pass, neither does the first character
pub low_fails : (test : ℕ → Bool) (text : List ℕ) → get_or text 0 32 < 128 → test (get_or text 0 32) ≡ false
    → first_passes test (chars text) ≡ false
low_fails test [] low fails = ap (first_passes test) chars-nil
low_fails test (b ∷ text) low fails =
    ap (first_passes test) (ascii_split (b ∷ text) 1 (and_from _ _ (lt-ltb b 128 low) refl)) ∙ fails

pub get_after : (text : List ℕ) (n : ℕ) → get_or (drop n text) 0 32 ≡ get_or text n 32
get_after text n = get_or-drop n text 0 32 ∙ ap (λ i. get_or text i 32) (omega arith)

pub next_fails : (test : ℕ → Bool) (text : List ℕ) (n : ℕ) → get_or text n 32 < 128 → test (get_or text n 32) ≡ false
    → first_passes test (chars (drop n text)) ≡ false
next_fails test text n low fails =
    low_fails test (drop n text) (omega (arith, get_after text n, low)) (ap test (get_after text n) ∙ fails)

-- ---- one byte

-- a text that is not empty has a first byte
pub front_byte : (bytes text : List ℕ) → bytes ≡ text → false ≡ (length bytes == 0)
    → (0 < length text) × (get_or text 0 0 ≡ get_or bytes 0 0)
front_byte [] text same h = absurd (both_ways true (sym h) refl)
front_byte (b ∷ bytes) text same h = (omega (arith, ap length same), ap (λ x. get_or x 0 0) (sym same))

not_slash : (c : ℕ) → 128 ≤ c → (c == 47) ≡ false
not_slash c high = ne_eqb c 47 (λ e. omega (arith, high, e))

no_slash : (text : List ℕ) (n : ℕ) → IsUtf8 (drop n text) → (get_or text n 32 ≡ 47 → ⊥)
    → first_passes (λ d. d == 47) (chars (drop n text)) ≡ false
no_slash text n utf8 fails =
    first_of_bytes (λ d. d == 47) false not_slash (drop n text) utf8
    ∙ first_get (λ d. d == 47) (drop n text) (ne_eqb _ 47 (λ e. fails (sym (get_after text n) ∙ e)))

pub front_fails : (c : ℕ) (front text : List ℕ) → first_passes (λ d. d == c) text ≡ false
    → begins_with (c ∷ front) text ≡ false
front_fails c front [] fails = refl
front_fails c front (d ∷ text) fails =
    and_left (c == d) _ (ne_eqb c d (λ e. both_ways _ fails (eq-eqb d c (sym e))))

mark_past : (c : ℕ) → 128 ≤ c → is_mark c ≡ false
mark_past c high = false_from_ne_true _ (λ is.
    let low = ltb-true c 128 (sub_listed (λ d. nat_lt d 128) marks refl c is) in omega (arith, high, low))

mark_or_end : (text : List ℕ) → first_passes is_mark text ≡ ascii_in classes.Mark (get_or text 0 32)
mark_or_end [] = refl
mark_or_end (b ∷ text) = elim (cases_lt b 128) [
  | inl low ↦ sym (ap (λ x. x && is_mark b) (lt-ltb b 128 low))
  | inr high ↦ mark_past b high ∙ sym (ap (λ x. x && is_mark b) (le-ltb b 128 high))
]

and_one : (b : Bool) → (b && true) ≡ b
and_one true = refl
and_one false = refl

joint_is : (text : List ℕ) (n : ℕ) → IsUtf8 (drop n text) → (get_or text n 32 ≡ 47 → ⊥)
    → ascii_in classes.Mark (get_or text n 32) ≡ joint_before (chars (drop n text))
joint_is text n utf8 fails =
    let r = chars (drop n text) in
    let plain : begins_any comment_fronts r ≡ false =
    let none = no_slash text n utf8 fails in
    or_from _ _ (front_fails 47 (codes "/") r none) (or_from _ _ (front_fails 47 (codes "*") r none) refl) in
    let first : first_passes is_mark r ≡ ascii_in classes.Mark (get_or text n 32) =
    first_of_bytes is_mark false mark_past (drop n text) utf8
    ∙ (mark_or_end (drop n text) ∙ ap (ascii_in classes.Mark) (get_after text n)) in
    sym (ap (λ b. first_passes is_mark r && not b) plain ∙ (and_one _ ∙ first))

-- facts about a text by its first byte c
module _ (first : Bool) (text : List ℕ) (c : ℕ) (utf8 : IsUtf8 text) (some : 0 < length text)
    (is : get_or text 0 0 ≡ c) where
  rest_utf8 : c < 128 → IsUtf8 (drop 1 text)
  rest_utf8 low = one_rest text utf8 some (omega (arith, low, is))

  pub closer_at : starts.Closer ≡ byte_starts c
      → IsAsciiAt (λ p r. IsPiece first (kind_of (kinds.Closer c) p) p r) text 1
  closer_at h =
      let at = start_of_low starts.Closer c h (λ e. cc) in
      one_ascii _ text c some is at.0 (c, refl, and_from _ _ (of_start starts.Closer c at.1) (eq-eqb c c refl))

  pub white_at : starts.White ≡ byte_starts c → IsAsciiAt (λ p r. IsPiece first (kind_of kinds.Gap p) p r) text 1
  white_at h =
      let at = start_of_low starts.White c h (λ e. cc) in
      one_ascii _ text c some is at.0 (inl (c, refl, of_start starts.White c at.1))

  pub opener_at : starts.Opener ≡ byte_starts c → (get_or text 1 32 ≡ 47 → ⊥)
      → IsAsciiAt (λ p r. IsPiece first (kind_of (kinds.Opener c) p) p r) text 1
  opener_at h fails =
      let at = start_of_low starts.Opener c h (λ e. cc) in
      let r = chars (drop 1 text) in
      let plain = front_fails 47 (codes "*ERROR*/)") r (no_slash text 1 (rest_utf8 at.0) fails) in
      one_ascii _ text c some is at.0 (
        (c, refl, and_from _ _ (of_start starts.Opener c at.1) (eq-eqb c c refl)),
        or_from _ _ (and_right (40 == c) _ plain) refl,
      )

  pub mark_at : (joint : Bool) → starts.Mark ≡ byte_starts c → (get_or text 1 32 ≡ 47 → ⊥)
      → joint ≡ ascii_in classes.Mark (get_or text 1 32)
      → IsAsciiAt (λ p r. IsPiece first (kind_of (kinds.Mark joint c) p) p r) text 1
  mark_at joint h fails e =
      let at = start_of_low starts.Mark c h (λ e. cc) in
      let r = chars (drop 1 text) in
      let among = and_from _ _ (of_start starts.Mark c at.1) (not_from_false _ (mark_not_quote c at.1)) in
      one_ascii _ text c some is at.0 (
        refl,
        inl (((c, refl, among), mark_plain c (c ∷ r) r refl at.1), e ∙ joint_is text 1 (rest_utf8 at.0) fails),
      )

  -- a lone quote is before a name
  pub quote_at : starts.Quote ≡ byte_starts c → (n : ℕ) → IsAsciiAt UnbarredName (drop 1 text) n
      → IsAsciiAt (λ p r. IsPiece first (kind_of (kinds.Mark true 39) p) p r) text 1
  quote_at h n name =
      let at = start_of_low starts.Quote c h (λ e. cc) in
      let same : c ≡ 39 = eqb-true c 39 (of_start starts.Quote c at.1) in
      let follows : FollowsQuote (chars (drop 1 text)) = record {
        raw = false;
        name = take n (drop 1 text);
        rest = chars (drop n (drop 1 text));
        whole = ascii_split (drop 1 text) n name.ascii;
        named = name.stands.0.0;
        unbarred = name.stands.1;
      } in
      one_ascii _ text 39 some (is ∙ same) (omega arith) (refl, inr ((refl, follows), refl))

pub quote_cut : (text : List ℕ) (c : ℕ) → IsUtf8 text → 0 < length text → get_or text 0 0 ≡ c
    → starts.Quote ≡ byte_starts c → IsCharBoundary text 1
quote_cut text c utf8 some is h =
    let at = start_of_low starts.Quote c h (λ e. cc) in
    fast_cut (λ p r. Unit {0}) text 1 utf8 (one_ascii (λ p r. Unit {0}) text c some is at.0 tt)

-- ---- runs of a class

-- the length of a run splits the text into the run and the rest
pub front_of_run : (test : ℕ → Bool) (text : List ℕ) (n : ℕ) → n ≡ length (while_front test text)
    → (take n text ≡ while_front test text) × (drop n text ≡ while_rest test text) × (n ≤ length text)
front_of_run test text n size =
    let split = ((finds_run test).sound text).0 in (
      ap (take n) split ∙ take_at (while_front test text) (while_rest test text) n (sym size),
      ap (drop n) split ∙ drop_at (while_front test text) (while_rest test text) n (sym size),
      omega (arith, size, ap length split, length-append (while_front test text) (while_rest test text)),
    )

-- all characters of a run are in the class
pub run_passes : (class : Class) (text : List ℕ) (n : ℕ) → n ≡ length (while_front (ascii_in class) text)
    → list_all (ascii_in class) (take n text) ≡ true
run_passes class text n size =
    ap (list_all (ascii_in class)) (front_of_run (ascii_in class) text n size).0
    ∙ ((finds_run (ascii_in class)).sound text).1.each

-- the byte after a run is not in the class
get_fails : (class : Class) (text : List ℕ) → is_in class 32 ≡ false → first_passes (ascii_in class) text ≡ false
    → get_or text 0 32 < 128 → is_in class (get_or text 0 32) ≡ false
get_fails class [] space stops low = space
get_fails class (b ∷ text) space stops low = sym (ap (λ x. x && is_in class b) (lt-ltb b 128 low)) ∙ stops

pub run_stops : (class : Class) (text : List ℕ) (n : ℕ) → n ≡ length (while_front (ascii_in class) text)
    → is_in class 32 ≡ false → get_or text n 32 < 128 → is_in class (get_or text n 32) ≡ false
run_stops class text n size space low =
    ap (is_in class) (sym (get_after text n))
    ∙ get_fails class (drop n text) space
    (ap (first_passes (ascii_in class)) (front_of_run (ascii_in class) text n size).1
    ∙ ((finds_run (ascii_in class)).sound text).1.stops)
    (omega (arith, low, get_after text n))

-- a run begins with the first byte, if that byte is in the class
pub run_cons : (class : Class) (text : List ℕ) (n : ℕ) → n ≡ length (while_front (ascii_in class) text)
    → ascii_in class (get_or text 0 32) ≡ true → ascii_in class 32 ≡ false
    → (more : List ℕ) × (take n text ≡ get_or text 0 32 ∷ more)
run_cons class [] n size on space = absurd (both_ways _ space on)
run_cons class (b ∷ text) n size on space =
    (while_front (ascii_in class) text, (front_of_run (ascii_in class) (b ∷ text) n size).0 ∙ cond-true _ _ _ on)

-- ---- names

-- no prefix begins where a name does, if each prefix has a character that continues no identifier, and the character
-- after the name is in no prefix
none_fronts : (passes : ℕ → Bool) (fronts : List (List ℕ)) (p r : List ℕ)
    → list_all (λ front. not (list_all is_ident_continue front)) fronts ≡ true
    → list_all (list_all passes) fronts ≡ true → list_all is_ident_continue p ≡ true → first_passes passes r ≡ false
    → begins_any fronts (p ++ r) ≡ false
none_fronts passes fronts p r fail all continues stops =
    any_cut passes fronts p [] r all stops
    (ap (begins_any fronts) (append-nil p) ∙ none_begins is_ident_continue fronts p fail continues)

-- the characters of names and of the prefixes of literals
abbrev in_prefixes : ℕ → Bool
in_prefixes c = is_ident_continue c || ((c == 34) || bars_quote false c)

name_at : (text : List ℕ) (n : ℕ) → ascii_in classes.IdentifierStart (get_or text 0 32) ≡ true
    → n ≡ length (while_front (ascii_in classes.IdentifierContinue) text)
    → (nat_lt (get_or text n 32) 128 && not ((get_or text n 32 == 34) || bars_quote false (get_or text n 32))) ≡ true
    → IsAsciiAt UnbarredName text n
unfolding unicode_ident
name_at text n starts size ends =
    let b = get_or text 0 32 in
    let next = get_or text n 32 in
    let r = chars (drop n text) in
    let start = and_parts (nat_lt b 128) (is_ident_start b) starts in
    let on : ascii_in classes.IdentifierContinue b ≡ true = and_from _ _ start.0 (start_continues b start.1) in
    let more = run_cons classes.IdentifierContinue text n size on refl in
    let all = run_passes classes.IdentifierContinue text n size in
    let continues : list_all is_ident_continue (take n text) ≡ true =
    all_pass _ _ (λ c is. (and_parts _ _ is).1) (take n text) all in
    let after = and_parts _ _ ends in
    let low = ltb-true next 128 after.0 in
    let plain = not-true _ after.1 in
    let ended = run_stops classes.IdentifierContinue text n size refl low in
    let out : first_passes in_prefixes r ≡ false = next_fails in_prefixes text n low (or_from _ _ ended plain) in
    let word : Stands plain_name (take n text) r = record {
      front = b ∷ [];
      back = more.0;
      whole = more.1;
      first = (b, refl, start.1);
      second = record {
        each = (and_parts _ _ (ap (list_all is_ident_continue) (sym more.1) ∙ continues)).1;
        stops = next_fails is_ident_continue text n low ended;
      };
    } in
    record {
      within = (front_of_run (ascii_in classes.IdentifierContinue) text n size).2;
      ascii = all_low classes.IdentifierContinue (take n text) all;
      stands = (
        (
          (word, none_fronts in_prefixes (codes "r#" ∷ []) (take n text) r refl refl continues out),
          none_fronts in_prefixes literal_prefixes (take n text) r refl refl continues out,
        ),
        next_fails (bars_quote false) text n low (or_parts _ _ plain).1,
      );
    }

-- the bytes that were read decide that a name is there
pub name_read : (text bytes : List ℕ) → bytes ≡ text → (b n next : ℕ) → b ≡ get_or bytes 0 32
    → next ≡ get_or bytes n 32 → true ≡ ascii_in classes.IdentifierStart b
    → n ≡ length (while_front (ascii_in classes.IdentifierContinue) bytes)
    → true ≡ (nat_lt next 128 && not ((next == 34) || bars_quote false next)) → IsAsciiAt UnbarredName text n
name_read text bytes same b n next front after starts size ends =
    subst (λ t. IsAsciiAt UnbarredName t n) same
    (name_at bytes n (ap (ascii_in classes.IdentifierStart) (sym front) ∙ sym starts) size
    (ap (λ x. nat_lt x 128 && not ((x == 34) || bars_quote false x)) (sym after) ∙ sym ends))

-- the name is a piece
pub name_piece_at : (first : Bool) (text : List ℕ) (name : Bor (List ℕ)) (n : ℕ) → name.now ≡ take n text
    → IsAsciiAt UnbarredName text n
    → IsAsciiAt (λ p r. IsPiece first (kind_of (kinds.Name false name) p) p r) text n
name_piece_at first text name n is at =
    let same : take n text ≡ chars name.now =
    sym (ap chars is ∙ chars-IsAscii (take n text) (is_ascii (take n text) at.ascii)) in
    record {
      within = at.within;
      ascii = at.ascii;
      stands = (same, subst (λ q. Identifier false q (chars (drop n text))) same at.stands.0);
    }

-- ---- numbers

pub exponent_continues : (c : ℕ) → is_exponent_letter c ≡ true → is_ident_continue c ≡ true
unfolding unicode_ident
exponent_continues c h = elim (or_cases _ _ h) [
  | inl small ↦ ap is_ident_continue (eqb-true c 101 small)
  | inr capital ↦ ap is_ident_continue (eqb-true c 69 capital)
]

pub one_none : (test : ℕ → Bool) (text : List ℕ) → first_passes test text ≡ false → find (One test) text ≡ None
unfolding find
one_none test [] fails = refl
one_none test (c ∷ text) fails = cond-false _ _ _ fails

-- digits make no float, if neither a dot nor an exponent follows
pub no_tail : (r : List ℕ) → first_passes (λ d. d == 46) r ≡ false → first_passes is_exponent_letter r ≡ false
    → find float_tail r ≡ None
no_tail r dot_fails letter_fails =
    let none_of_dot : find fraction r ≡ None =
    then_lacks dot _ r (rw (find_not_before, text_lacks (codes ".") r (front_fails 46 [] r dot_fails)) refl) in
    let none_of_letter : find (Then exponent end) r ≡ None =
    then_lacks exponent end r (then_lacks (One is_exponent_letter) _ r (one_none is_exponent_letter r letter_fails)) in
    rw (find_either, none_of_dot) none_of_letter

pub clear_float : Clear float
clear_float = assumption

number_at : (text : List ℕ) (n : ℕ) → ascii_in classes.Digit (get_or text 0 32) ≡ true
    → n ≡ length (while_front (ascii_in classes.DigitOrUnderscore) text)
    → (nat_lt (get_or text n 32) 128 && not ((get_or text n 32 == 46) || is_ident_continue (get_or text n 32))) ≡ true
    → IsAsciiAt Number text n
unfolding unicode_ident number
number_at text n starts size ends =
    let after = and_parts _ _ ends in
    let low = ltb-true (get_or text n 32) 128 after.0 in
    let plain = or_parts _ _ (not-true _ after.1) in
    let dot_fails = plain.0 in
    let ended = plain.1 in
    let b = get_or text 0 32 in
    let p = take n text in
    let r = chars (drop n text) in
    let start = and_parts (nat_lt b 128) (is_ascii_digit b) starts in
    let on : ascii_in classes.DigitOrUnderscore b ≡ true = and_from _ _ start.0 (or_left _ _ start.1) in
    let more = run_cons classes.DigitOrUnderscore text n size on refl in
    let all = run_passes classes.DigitOrUnderscore text n size in
    let digit_all : list_all is_digit_or_underscore p ≡ true = all_pass _ _ (λ c is. (and_parts _ _ is).1) p all in
    let fails : (test : ℕ → Bool) → test (get_or text n 32) ≡ false → first_passes test r ≡ false =
    λ test. next_fails test text n low in
    let no_letter = false_from_ne_true _ (λ is. both_ways _ ended (exponent_continues (get_or text n 32) is)) in
    let no_start = false_from_ne_true _ (λ is. both_ways _ ended (start_continues (get_or text n 32) is)) in
    let word : Stands digits p r = record {
      front = b ∷ [];
      back = more.0;
      whole = more.1;
      first = (b, refl, start.1);
      second = record {
        each = (and_parts _ _ (ap (list_all is_digit_or_underscore) (sym more.1) ∙ digit_all)).1;
        stops = fails is_digit_or_underscore (run_stops classes.DigitOrUnderscore text n size refl low);
      };
    } in
    let tail = no_tail r (fails (λ d. d == 46) dot_fails) (fails is_exponent_letter no_letter) in
    let none : find float (p ++ r) ≡ None =
    rw (find_then, finds_digits.complete p r word, tail) refl in
    let plain = any_cut is_ident_continue base_prefixes p [] r refl (fails is_ident_continue ended)
    (ap (begins_any base_prefixes) (append-nil p)
    ∙ none_begins is_digit_or_underscore base_prefixes p refl digit_all) in
    record {
      within = (front_of_run (ascii_in classes.DigitOrUnderscore) text n size).2;
      ascii = all_low classes.DigitOrUnderscore p all;
      stands = inr (
        none_is (find float) (Stands float) (exact float clear_float) (p ++ r) none,
        record {
          front = p;
          back = [];
          whole = sym (append-nil p);
          first = inl (word, plain);
          second = (inr (no_name r (fails is_ident_start no_start), refl), fails is_ident_continue ended);
        },
      );
    }

pub number_read : (text bytes : List ℕ) → bytes ≡ text → (b n next : ℕ) → b ≡ get_or bytes 0 32
    → next ≡ get_or bytes n 32 → true ≡ ascii_in classes.Digit b
    → n ≡ length (while_front (ascii_in classes.DigitOrUnderscore) bytes)
    → true ≡ (nat_lt next 128 && not ((next == 46) || is_ident_continue next)) → IsAsciiAt Number text n
number_read text bytes same b n next front after starts size ends =
    subst (λ t. IsAsciiAt Number t n) same
    (number_at bytes n (ap (ascii_in classes.Digit) (sym front) ∙ sym starts) size
    (ap (λ x. nat_lt x 128 && not ((x == 46) || is_ident_continue x)) (sym after) ∙ sym ends))

pub literal_at : (first : Bool) (text : List ℕ) (n : ℕ) → IsAsciiAt Number text n
    → IsAsciiAt (λ p r. IsPiece first (kind_of kinds.Literal p) p r) text n
unfolding Literal
literal_at first text n at = at_other _ _ text n (λ p r h. (refl, inl (inr h))) at
