-- A string, decided by a few bytes.
use Rattle.std.proofs.Common.{◌≡◌, ℕ, ◌+◌, ◌<◌, ◌≤◌, Bool, true, false, ◌&&◌, not, inl, inr, List, [], ◌∷◌, ◌++◌, Some}
use Rattle.std.proofs.Common.{length, get_or, take, drop, codes, refl, sym, ap, ap₂, ◌∙◌, subst, arith, append_assoc}
use Rattle.std.proofs.Common.{append-nil, drop-cons, length-append, length-drop, nat_lt, suc}
use Rattle.std.proofs.Math.Seq.{take-add}
use Rattle.std.proofs.Common.{None, Option}
use Rattle.std.specs.Prelude.{IfSome, map}
use Rattle.std.specs.List.{list_all, concat}
use Rattle.std.specs.Str.{IsAscii, IsCharBoundary, IsUtf8, chars, encode_utf8_all}
use Rattle.std.proofs.lemmas.Bool.{and_parts, and_from, both_ways}
use Rattle.std.proofs.lemmas.List.{drop-drop, get_or-take, get_or_default, length-take-le, take-append-drop}
use Rattle.std.proofs.lemmas.List.Folds.{concat-append, list_all-append, list_all_at}
use Rattle.std.proofs.lemmas.Str.{IsCharBoundary-from_take, IsUtf8-append, IsUtf8-drop, IsUtf8-from_ascii, IsUtf8-take}
use Rattle.std.proofs.lemmas.Str.{chars-IsAscii, chars-append, encodes-append, encodes-chars}
use Rattle.memchr.specs.Find.{IsFirstByte, is_byte3}
use Rattle.lexical.specs.Ascii.{all_ascii}
use Rattle.lexical.specs.Finder.{while_front}
use Rattle.lexical.specs.Form.{Each, Exactly, Form, Then}
use Rattle.lexical.specs.Found.{IsAt, IsPieceAt, LendsText, kind_of}
use Rattle.lexical.specs.Literal.{Literal}
use Rattle.lexical.specs.Piece.{IsPiece}
use Rattle.lexical.specs.Quick.{Anywhere, IsAsciiAt, IsLiteralAt, IsStretch}
use Rattle.lexical.specs.Quoted.{Str, body, escape_or_line_end, is_plain, unit}
use Rattle.lexical.specs.RawString.{may_stand_raw}
use Rattle.lexical.specs.Rule.{Stands}
use Rattle.lexical.specs.MachineWord.{is_plain_ascii}
use Rattle.lexical.specs.declared.piece.Piece.{Piece}
use Rattle.lexical.specs.declared.piece.PieceKind.TheVariants as kinds
use Rattle.lexical.specs.declared.fast_path.Extent.{Extent}
use Rattle.lexical.specs.declared.quoted.StringKind.{StringKind}
use Rattle.lexical.specs.declared.quoted.StringKind.TheVariants as strings
use Rattle.lexical.proofs.FinderLemmas.{finds_run}
use Rattle.lexical.proofs.FastEscapeLemmas.{after_backslash, plain_holds}
use Rattle.lexical.proofs.FastPathLemmas.{ascii_split, get_after}
use Rattle.lexical.proofs.FastLiteralLemmas.{ascii_all, closes, ends, string_literal}
use Rattle.lexical.proofs.FastNumberLemmas.{byte_within}
use Rattle.lexical.proofs.Scan.{run_boundary, run_front}
use Rattle.lexical.proofs.SearchLemmas.{found_end, plain_allowed}
use Rattle.lexical.proofs.TextLemmas.{all_pass, ascii_bytes, encode_all_ascii, is_ascii, seam_boundary, seam_take}

-- ---- units, whatever follows them

module _ (kind : StringKind) where
  abbrev AllAnywhere : List (List ℕ) → Type 0
  AllAnywhere [] = Unit {0}
  AllAnywhere (u ∷ us) = ((r : List ℕ) → Stands (unit kind) u r) × AllAnywhere us

  -- whether the text consists of units that stay units before any text
  pub record Units (p : List ℕ) : Type 0 where
    units : List (List ℕ)
    whole : p ≡ concat units
    each : AllAnywhere units

  each_unit : (us : List (List ℕ)) (r : List ℕ) → AllAnywhere us → Each (Stands (unit kind)) us r
  each_unit [] r all = tt
  each_unit (u ∷ us) r all = (all.0 (concat us ++ r), each_unit us r all.1)

  both_anywhere : (us vs : List (List ℕ)) → AllAnywhere us → AllAnywhere vs → AllAnywhere (us ++ vs)
  both_anywhere [] vs a b = b
  both_anywhere (u ∷ us) vs a b = (a.0, both_anywhere us vs a.1 b)

  both_units : (p q : List ℕ) → Units p → Units q → Units (p ++ q)
  both_units p q a b = record {
    units = a.units ++ b.units;
    whole = ap₂ (λ x y. x ++ y) a.whole b.whole ∙ sym (concat-append a.units b.units);
    each = both_anywhere a.units b.units a.each b.each;
  }

  -- the list of one-character texts of these characters
  abbrev singles : List ℕ → List (List ℕ)
  singles = map (λ c. c ∷ [])

  concat_singles : (cs : List ℕ) → concat (singles cs) ≡ cs
  concat_singles [] = refl
  concat_singles (c ∷ cs) = ap (λ xs. c ∷ xs) (concat_singles cs)

  each_single : (cs : List ℕ) → list_all (is_plain kind) cs ≡ true → AllAnywhere (singles cs)
  each_single [] all = tt
  each_single (c ∷ cs) all =
      let parts = and_parts _ _ all in (λ r. inl (c, refl, parts.0), each_single cs parts.1)

  plain_units : (cs : List ℕ) → list_all (is_plain kind) cs ≡ true → Units cs
  plain_units cs all = record { units = singles cs; whole = sym (concat_singles cs); each = each_single cs all }

  -- ---- units at the start of the text

  -- whether the bytes are valid UTF-8 and consist of units
  pub record Front (bytes : List ℕ) : Type 0 where
    utf8 : IsUtf8 bytes
    units : Units (chars bytes)

  both_fronts : (a b : List ℕ) → Front a → Front b → Front (a ++ b)
  both_fronts a b x y = record {
    utf8 = IsUtf8-append a b x.utf8 y.utf8;
    units = subst Units (sym (chars-append a b x.utf8)) (both_units (chars a) (chars b) x.units y.units);
  }

  -- an escape with its backslash is one unit
  escape_front : (p : List ℕ) → all_ascii p ≡ true
      → ((r : List ℕ) → Then (Exactly (codes "\\")) (Stands (escape_or_line_end kind)) p r) → Front p
  escape_front p ascii is =
      let low = is_ascii p ascii in
      record {
        utf8 = IsUtf8-from_ascii p low;
        units = subst Units (sym (chars-IsAscii p low))
            (record { units = p ∷ []; whole = sym (append-nil p); each = (λ r. inr (inr (is r)), tt) });
      }

  -- the characters before the byte at which the search ends need no escape
  plain_of : (cs : List ℕ) → list_all (may_stand_raw kind) cs ≡ true
      → list_all (λ b. not (is_byte3 34 92 13 b)) cs ≡ true → list_all (is_plain kind) cs ≡ true
  plain_of [] may goes = refl
  plain_of (c ∷ cs) may goes =
      let a = and_parts _ _ may in
      let b = and_parts _ _ goes in
      and_from _ _ (plain_allowed kind c ∙ and_from _ _ a.0 b.0) (plain_of cs a.1 b.1)

  pub stretch : (bs : List ℕ) (k : ℕ) → IsUtf8 bs → IsStretch kind bs k → Front (take k bs)
  stretch bs k utf8 is =
      let found = is.first in
      let test : ℕ → Bool = λ b. not (is_byte3 34 92 13 b) in
      let past : (c : ℕ) → 128 ≤ c → test c ≡ true = λ c high. grind (arith, high) in
      let size : k ≡ length (while_front test bs) = sym (found_end (is_byte3 34 92 13) bs (Some k) found) in
      let front = run_front test true past bs utf8 k size in
      record {
        utf8 = IsUtf8-take bs k utf8 (run_boundary test true past bs utf8 k size);
        units = plain_units (chars (take k bs)) (plain_of (chars (take k bs)) is.may
            (ap (list_all test) front ∙ ((finds_run test).sound (chars bs)).1.each));
      }

  -- ---- after an escape, up to where the search ends again

  -- the backslash is at n, the escape after it has e bytes, and k bytes follow before the search ends
  module _ (inside after rest : List ℕ) (n e k : ℕ) (utf8 : IsUtf8 inside) (before : Front (take n inside))
      (slash : get_or inside n 0 ≡ 92) (inner : n < length inside) (same : after ≡ drop (n + 1) inside)
      (at : IsAsciiAt (Anywhere (Stands (escape_or_line_end kind))) after e) (is : rest ≡ drop (n + 1 + e) inside) where
    escape_here : IsAsciiAt (Anywhere (Then (Exactly (codes "\\")) (Stands (escape_or_line_end kind)))) (drop n inside)
        (e + 1)
    escape_here =
        let here : get_or (drop n inside) 0 32 ≡ 92 =
        get_after inside n ∙ (get_or_default inside n 32 0 inner ∙ slash) in
        after_backslash (Stands (escape_or_line_end kind)) (drop n inside) after e here
        (same ∙ sym (drop-drop 1 n inside)) at

    past_within : n + 1 + e ≤ length inside
    past_within = omega (arith, escape_here.within, length-drop n inside, inner)

    past_front : Front (take (n + 1 + e) inside)
    past_front =
        let total : n + (e + 1) ≡ n + 1 + e = omega arith in
        subst (λ m. Front (take m inside)) total
        (subst Front (sym (take-add n (e + 1) inside))
        (both_fronts (take n inside) (take (e + 1) (drop n inside)) before
        (escape_front (take (e + 1) (drop n inside)) escape_here.ascii escape_here.stands)))

    rest_utf8 : IsUtf8 rest
    rest_utf8 = subst IsUtf8 (sym is) (IsUtf8-drop inside (n + 1 + e) utf8
        (IsCharBoundary-from_take inside (n + 1 + e) utf8 past_within past_front.utf8))

    module _ (on : IsStretch kind rest k) where
      pub units_within : n + 1 + e + k < length inside
      units_within = omega (arith, on.first.0.high, ap length is, length-drop (n + 1 + e) inside, past_within)

      pub units_on : Front (take (n + 1 + e + k) inside)
      units_on =
          subst Front (sym (take-add (n + 1 + e) k inside))
          (both_fronts (take (n + 1 + e) inside) (take k (drop (n + 1 + e) inside)) past_front
          (subst (λ xs. Front (take k xs)) is (stretch rest k rest_utf8 on)))

  -- ---- the whole string

  module _ (inside : List ℕ) (k : ℕ) (within : k < length inside) (front : Front (take k inside))
      (hit : get_or inside k 0 ≡ 34) (ended : ends (get_or inside (k + 1) 32) ≡ true) where
    string_whole : chars inside ≡ (chars (take k inside) ++ (34 ∷ [])) ++ chars (drop (k + 1) inside)
    string_whole =
        let rest = drop (k + 1) inside in
        let next : suc k ≡ k + 1 = omega arith in
        let back : drop k inside ≡ 34 ∷ rest =
        drop-cons inside k 0 within ∙ ap₂ (λ c m. c ∷ drop m inside) hit next in
        ap chars (sym (take-append-drop k inside))
        ∙ (chars-append (take k inside) (drop k inside) front.utf8
        ∙ (ap (λ xs. chars (take k inside) ++ xs) (ap chars back ∙ ascii_split (34 ∷ rest) 1 refl)
        ∙ sym (append_assoc (chars (take k inside)) (34 ∷ []) (chars rest))))

    string_stands : Stands (body (unit kind) (codes "\"")) (chars (take k inside) ++ (34 ∷ []))
        (chars (drop (k + 1) inside))
    string_stands =
        let rest = drop (k + 1) inside in
        let units = front.units in
        record {
          front = chars (take k inside);
          back = 34 ∷ [];
          whole = refl;
          first = record {
            units = units.units;
            whole = units.whole;
            each = each_unit units.units ((34 ∷ []) ++ chars rest) units.each;
          };
          second = closes 34 rest (ap ends (get_after inside (k + 1)) ∙ ended);
        }

    pub string_body : IsAt (Stands (body (unit kind) (codes "\""))) (chars inside) (k + 1)
    string_body =
        let p = chars (take k inside) in
        let bytes : encode_utf8_all (p ++ (34 ∷ [])) ≡ take k inside ++ (34 ∷ []) =
        encodes-append p (34 ∷ [])
        ∙ ap₂ (λ x y. x ++ y) (encodes-chars (take k inside) front.utf8) (encode_all_ascii (34 ∷ []) refl) in
        record {
          front = p ++ (34 ∷ []);
          rest = chars (drop (k + 1) inside);
          whole = string_whole;
          stands = string_stands;
          size = sym (ap length bytes ∙ (length-append (take k inside) (34 ∷ [])
              ∙ ap (λ m. m + 1) (length-take-le k inside (omega (arith, within)))));
        }

-- a string may contain any character before the byte at which the search ends
pub plain_stretch : (text bytes : List ℕ) (k : ℕ) → bytes ≡ text → IsFirstByte (is_byte3 34 92 13) bytes (Some k)
    → IsStretch strings.Plain text k
plain_stretch text bytes k same found = record {
  first = subst (λ t. IsFirstByte (is_byte3 34 92 13) t (Some k)) same found;
  may = plain_holds (chars (take k text));
}

-- ---- ASCII without escapes

and_no : (b : Bool) → (b && false) ≡ false
and_no true = refl
and_no false = refl

-- the ASCII bytes before a quote or a backslash are found by the search
pub plain_up_to : (inside : List ℕ) (k stop : ℕ) → list_all is_plain_ascii (take k inside) ≡ true
    → get_or inside k 32 ≡ stop → is_byte3 34 92 13 stop ≡ true → (stop ≡ 32 → ⊥) → IsStretch strings.Plain inside k
plain_up_to inside k stop all here stops other =
    let within = byte_within inside k _ stop refl here other in
    record {
      first = (
        record {
          low = omega arith;
          high = within;
          before = λ i low before at.
              let passes : is_plain_ascii (get_or (take k inside) i 0) ≡ false =
              ap (λ b. nat_lt (get_or (take k inside) i 0) 128 && not (is_byte3 34 92 13 b))
              (get_or-take k inside i 0 before)
              ∙ (ap (λ b. nat_lt (get_or (take k inside) i 0) 128 && not b) at ∙ and_no _) in
              let size : i < length (take k inside) =
              omega (arith, before, length-take-le k inside (omega (arith, within))) in
              both_ways _ (list_all_at is_plain_ascii (take k inside) i 0 size passes) all;
        },
        ap (is_byte3 34 92 13) (sym (get_or_default inside k 32 0 within) ∙ here) ∙ stops,
      );
      may = plain_holds (chars (take k inside));
    }

-- ---- a form at the start of a text

-- a piece of a form is a piece of each form that has the same pieces
pub found_other : (A B : Form) (text : List ℕ) (n : ℕ) → ((p r : List ℕ) → A p r → B p r) → IsAt A text n
    → IsAt B text n
found_other A B text n to at = record {
  front = at.front;
  rest = at.rest;
  whole = at.whole;
  stands = to at.front at.rest at.stands;
  size = at.size;
}

-- a piece of ASCII bytes has as many characters as bytes
pub ascii_found : (A : Form) (text : List ℕ) (n : ℕ) → IsAsciiAt A text n → IsAt A (chars text) n
ascii_found A text n at = record {
  front = take n text;
  rest = chars (drop n text);
  whole = ascii_split text n at.ascii;
  stands = at.stands;
  size = sym (ascii_bytes (take n text) at.ascii ∙ length-take-le n text at.within);
}

pub some_literal : (A : Form) (text : List ℕ) (size : Option ℕ) → ((p r : List ℕ) → A p r → Literal p r)
    → IfSome size (IsAsciiAt A text) → IfSome size (IsAt Literal (chars text))
some_literal A text None to at = tt
some_literal A text (Some n) to at = found_other A Literal (chars text) n to (ascii_found A text n at)

pub some_found : (A : Form) (text : List ℕ) (size : Option ℕ) → ((p r : List ℕ) → A p r → Literal p r)
    → IfSome size (IsAt A (chars text)) → IfSome size (IsAt Literal (chars text))
some_found A text None to at = tt
some_found A text (Some n) to at = found_other A Literal (chars text) n to at

-- an ASCII opener and a piece after it are a piece
pub after_front : (A : Form) (opener text inside : List ℕ) (n : ℕ) → all_ascii opener ≡ true
    → text ≡ opener ++ inside → IsAt A inside n → IsAt (Then (Exactly opener) A) text (n + length opener)
after_front A opener text inside n ascii whole at = record {
  front = opener ++ at.front;
  rest = at.rest;
  whole = whole ∙ (ap (λ xs. opener ++ xs) at.whole ∙ sym (append_assoc opener at.front at.rest));
  stands = record { front = opener; back = at.front; whole = refl; first = refl; second = at.stands };
  size = omega (
    arith,
    at.size,
    ap length (encodes-append opener at.front
        ∙ ap (λ xs. xs ++ encode_utf8_all at.front) (encode_all_ascii opener ascii)),
    length-append opener (encode_utf8_all at.front),
  );
}

-- the literal is a piece of n bytes, and its characters are counted
module _ (text : List ℕ) (n : ℕ) (utf8 : IsUtf8 text) (at : IsAt Literal (chars text) n) where
  pub literal_cut : IsCharBoundary text n
  literal_cut = seam_boundary text at.front at.rest n utf8 at.whole at.size

  pub literal_counted : (first : Bool) (piece : Piece) → piece.kind ≡ kinds.Literal → piece.bytes ≡ n
      → piece.chars ≡ length (chars (take n text)) → IsPieceAt first (chars text) piece
  literal_counted first piece kind bytes count = record {
    front = at.front;
    rest = at.rest;
    whole = at.whole;
    stands = subst (λ k. IsPiece first (kind_of k at.front) at.front at.rest) (sym kind) (refl, inl at.stands);
    bytes = bytes ∙ at.size;
    chars = count ∙ ap length (seam_take text at.front at.rest n utf8 at.whole at.size);
    lends = subst LendsText (sym kind) tt;
  }

-- ASCII bytes without escapes after the first quote, and a quote, are a string
pub plain_string : (first : Bool) (text inside : List ℕ) (k : ℕ) (piece : Piece) → IsUtf8 inside
    → chars text ≡ codes "\"" ++ chars inside → IsStretch strings.Plain inside k → get_or inside k 0 ≡ 34
    → IsAscii (take k inside) → ends (get_or inside (k + 1) 32) ≡ true → piece.kind ≡ kinds.Literal
    → piece.bytes ≡ k + 2 → piece.chars ≡ k + 2 → IsPieceAt first (chars text) piece
unfolding Str
plain_string first text inside k piece utf8 split is hit low ended kind bytes count =
    let p = take k inside in
    let q = 34 ∷ (p ++ (34 ∷ [])) in
    let rest = chars (drop (k + 1) inside) in
    let within : k < length inside = is.first.0.high in
    let front = stretch strings.Plain inside k utf8 is in
    let same : chars p ≡ p = chars-IsAscii p low in
    let all : all_ascii q ≡ true =
    and_from _ _ refl (list_all-append _ p (34 ∷ []) ∙ and_from _ _ (ascii_all p low) refl) in
    let size : k + 2 ≡ length q =
    omega (arith, length-append p (34 ∷ []), length-take-le k inside (omega (arith, within))) in
    let stands : Str q rest = record {
      front = 34 ∷ [];
      back = p ++ (34 ∷ []);
      whole = refl;
      first = refl;
      second = subst (λ xs. Stands (body (unit strings.Plain) (codes "\"")) (xs ++ (34 ∷ [])) rest) same
          (string_stands strings.Plain inside k within front hit ended);
    } in
    record {
      front = q;
      rest = rest;
      whole = split ∙ ap (λ xs. 34 ∷ xs) (string_whole strings.Plain inside k within front hit ended
          ∙ ap (λ xs. (xs ++ (34 ∷ [])) ++ rest) same);
      stands = subst (λ k. IsPiece first (kind_of k q) q rest) (sym kind) (refl, inl (string_literal q rest stands));
      bytes = bytes ∙ (size ∙ sym (ascii_bytes q all));
      chars = count ∙ size;
      lends = subst LendsText (sym kind) tt;
    }

-- the bytes that were counted decide the extent of a string
pub short_string : (inside bytes : List ℕ) (k stop : ℕ) (extent : Extent) → bytes ≡ inside → IsUtf8 inside
    → list_all is_plain_ascii (take k inside) ≡ true → stop ≡ get_or bytes k 32 → stop ≡ 34
    → ends (get_or bytes (k + 1) 32) ≡ true → extent.bytes ≡ k + 2 → extent.chars ≡ k + 2
    → (text : List ℕ) → chars text ≡ codes "\"" ++ chars inside → IsLiteralAt (chars text) extent
short_string inside bytes k stop extent same utf8 all here quote ended size count text split first =
    let at : get_or inside k 32 ≡ 34 = ap (λ t. get_or t k 32) (sym same) ∙ (sym here ∙ quote) in
    let is = plain_up_to inside k 34 all at refl (λ e. omega (arith, e)) in
    let within : k < length inside = is.first.0.high in
    plain_string first text inside k _ utf8 split is (sym (get_or_default inside k 32 0 within) ∙ at)
    (is_ascii (take k inside)
    (all_pass is_plain_ascii (λ c. nat_lt c 128) (λ c h. (and_parts _ _ h).0) (take k inside) all))
    (ap (λ t. ends (get_or t (k + 1) 32)) (sym same) ∙ ended) refl size count
