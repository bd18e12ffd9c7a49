-- Prefixes and endings of texts, and the text between quotes.
use Rattle.std.proofs.Common.{◌≡◌, ◌≢◌, ℕ, ◌<◌, Bool, true, false, List, [], ◌∷◌, ◌++◌, length, drop, take, get_or}
use Rattle.std.proofs.Common.{length-append, codes, Option, Some, None, MatchOption, Bor, refl, sym, ap, ap₂, ◌∙◌}
use Rattle.std.proofs.Common.{subst, arith, append_assoc, eqb-true, cond}
use Rattle.std.specs.Prelude.{reverse, unwrap_or, option_and_then, is_some}
use Rattle.std.specs.List.{list_all}
use Rattle.std.specs.Option.{option_map}
use Rattle.std.specs.Str.{chars, IsUtf8, encode_utf8_all}
use Rattle.std.proofs.lemmas.Bool.{both_ways, and_parts, and_from, cond-true, cond-false}
use Rattle.std.proofs.lemmas.List.{reverse-append, reverse-reverse, append_cancel_right, take_at, get_or_at}
use Rattle.std.proofs.Math.Seq.{drop-append_seam}
use Rattle.std.proofs.lemmas.Str.{IsUtf8-take, IsCharBoundary-before_ascii, chars-append, chars-IsAscii, encode_ascii}
use Rattle.std.proofs.lemmas.Str.Ascii.{IsAscii-nil, IsAscii-cons}
use Rattle.lexical.specs.Text.{begins_with, first_passes}
use Rattle.lexical.proofs.TextLemmas.{begins_front, begins_splits, seam_bytes}
use Rattle.pm_token.specs.Content.{strip_front, before, between, cooked_content, is_hash, hashes, hashed_content}

-- ---- options

pub some_same : {A : Type 0} (x y : A) → Some x ≡ Some y → x ≡ y
some_same x y e = ap (λ o. unwrap_or o x) e

pub not_some : {A : Type 0} (x : A) → None ≡ Some x → ⊥
not_some x e = both_ways _ refl (ap is_some e)

-- two options are equal if each has the value of the other
pub same_option : {A : Type 0} (a b : Option A) → ((x : A) → a ≡ Some x → b ≡ Some x)
    → ((x : A) → b ≡ Some x → a ≡ Some x) → a ≡ b
same_option None None f g = refl
same_option None (Some y) f g = g y refl
same_option (Some x) b f g = sym (f x refl)

pub no_option : {A : Type 0} (a : Option A) → ((x : A) → a ≡ Some x → ⊥) → a ≡ None
no_option None f = refl
no_option (Some x) f = absurd (f x refl)

-- ---- prefixes and endings

pub strip_front_of : (front rest : List ℕ) → strip_front front (front ++ rest) ≡ Some rest
unfolding strip_front
strip_front_of front rest = cond-true _ _ _ (begins_front front rest) ∙ ap (λ x. Some x) (drop-append_seam front rest)

pub strip_front_none : (front text : List ℕ) → begins_with front text ≡ false → strip_front front text ≡ None
unfolding strip_front
strip_front_none front text h = cond-false _ _ _ h

strip_front_cases : (b : Bool) (front text rest : List ℕ) → begins_with front text ≡ b
    → strip_front front text ≡ Some rest
    → text ≡ front ++ rest
strip_front_cases true front text rest h e =
    let split = begins_splits front text h in
    split.1 ∙ ap (λ r. front ++ r)
    (some_same split.0 rest (sym (strip_front_of front split.0) ∙ (ap (strip_front front) (sym split.1) ∙ e)))
strip_front_cases false front text rest h e = absurd (not_some rest (sym (strip_front_none front text h) ∙ e))

pub strip_front_splits : (front text rest : List ℕ) → strip_front front text ≡ Some rest → text ≡ front ++ rest
strip_front_splits front text rest e = strip_front_cases (begins_with front text) front text rest refl e

pub before_back : (back front : List ℕ) → before back (front ++ back) ≡ Some front
unfolding before
before_back back front =
    ap (λ t. option_map reverse (strip_front (reverse back) t)) (reverse-append front back)
    ∙ (ap (option_map reverse) (strip_front_of (reverse back) (reverse front))
    ∙ ap (λ x. Some x) (reverse-reverse front))

before_cases : (o : Option (List ℕ)) (back text front : List ℕ) → strip_front (reverse back) (reverse text) ≡ o
    → option_map reverse o ≡ Some front → text ≡ front ++ back
before_cases None back text front h e = absurd (not_some front e)
before_cases (Some rest) back text front h e =
    sym (reverse-reverse text) ∙ (ap reverse (strip_front_splits (reverse back) (reverse text) rest h)
    ∙ (reverse-append (reverse back) rest
    ∙ ap₂ (λ xs ys. xs ++ ys) (some_same (reverse rest) front e) (reverse-reverse back)))

pub before_splits : (back text front : List ℕ) → before back text ≡ Some front → text ≡ front ++ back
unfolding before
before_splits back text front e = before_cases (strip_front (reverse back) (reverse text)) back text front refl e

pub before_none : (back text : List ℕ) → ((front : List ℕ) → text ≢ front ++ back) → before back text ≡ None
before_none back text none = no_option (before back text) (λ front e. none front (before_splits back text front e))

-- ---- the text between a prefix and an ending

pub between_within : (front back content : List ℕ) → between front back (front ++ (content ++ back)) ≡ Some content
between_within front back content = ap (option_and_then (before back)) (strip_front_of front (content ++ back))
    ∙ before_back back content

between_cases : (o : Option (List ℕ)) (front back text content : List ℕ) → strip_front front text ≡ o
    → option_and_then (before back) o ≡ Some content → text ≡ front ++ (content ++ back)
between_cases None front back text content h e = absurd (not_some content e)
between_cases (Some rest) front back text content h e = strip_front_splits front text rest h
    ∙ ap (λ r. front ++ r) (before_splits back rest content e)

pub between_splits : (front back text content : List ℕ) → between front back text ≡ Some content
    → text ≡ front ++ (content ++ back)
between_splits front back text content e = between_cases (strip_front front text) front back text content refl e

-- ---- hash signs

-- whether the text is the content in quotes, with equally many hash signs on both sides
pub record IsHashed (text content : List ℕ) : Type 0 where
  pub signs : List ℕ
  pub all : list_all is_hash signs ≡ true
  pub whole : text ≡ (signs ++ codes "\"") ++ (content ++ (codes "\"" ++ signs))

hashes_all : (text : List ℕ) → list_all is_hash (hashes text) ≡ true
hashes_all [] = refl
hashes_all (c ∷ text) = step (is_hash c) refl (hashes_all text)
  where
    step : (b : Bool) → is_hash c ≡ b → list_all is_hash (hashes text) ≡ true
        → list_all is_hash (cond b (c ∷ hashes text) []) ≡ true
    step true h all = and_from _ _ h all
    step false h all = refl

hashes_front : (signs rest : List ℕ) → list_all is_hash signs ≡ true → hashes ((signs ++ codes "\"") ++ rest) ≡ signs
hashes_front [] rest h = refl
hashes_front (c ∷ signs) rest h =
    let parts = and_parts (is_hash c) (list_all is_hash signs) h in
    cond-true _ _ _ parts.0 ∙ ap (λ xs. c ∷ xs) (hashes_front signs rest parts.1)

-- a hash sign after hash signs may as well be before them
hash_turn : (signs : List ℕ) → list_all is_hash signs ≡ true → signs ++ codes "#" ≡ 35 ∷ signs
hash_turn [] h = refl
hash_turn (c ∷ signs) h =
    let parts = and_parts (is_hash c) (list_all is_hash signs) h in
    let sign : c ≡ 35 = eqb-true c 35 parts.0 in
    ap₂ (λ d xs. d ∷ xs) sign (hash_turn signs parts.1 ∙ ap (λ d. d ∷ signs) (sym sign))

pub hashed_splits : (text content : List ℕ) → hashed_content text ≡ Some content → IsHashed text content
unfolding hashed_content
hashed_splits text content e = record {
  signs = hashes text;
  all = hashes_all text;
  whole = between_splits (hashes text ++ codes "\"") (codes "\"" ++ hashes text) text content e;
}

pub hashed_within : (text content : List ℕ) → IsHashed text content → hashed_content text ≡ Some content
unfolding hashed_content
hashed_within text content is =
    let signs : hashes text ≡ is.signs = ap hashes is.whole
    ∙ hashes_front is.signs (content ++ (codes "\"" ++ is.signs)) is.all in
    ap₂ (λ s t. between (s ++ codes "\"") (codes "\"" ++ s) t) signs is.whole
    ∙ between_within (is.signs ++ codes "\"") (codes "\"" ++ is.signs) content

-- the closing quote with one more hash sign
more_signs : (signs content : List ℕ) → list_all is_hash signs ≡ true
    → (signs ++ codes "\"") ++ (content ++ (codes "\"" ++ (35 ∷ signs)))
    ≡ ((signs ++ codes "\"") ++ (content ++ (codes "\"" ++ signs))) ++ codes "#"
more_signs signs content h =
    ap (λ xs. (signs ++ codes "\"") ++ (content ++ (34 ∷ xs))) (sym (hash_turn signs h))
    ∙ (ap (λ xs. (signs ++ codes "\"") ++ xs) (sym (append_assoc content (34 ∷ signs) (codes "#")))
    ∙ sym (append_assoc (signs ++ codes "\"") (content ++ (34 ∷ signs)) (codes "#")))

strip_front_sign : (signs text content : List ℕ) → list_all is_hash signs ≡ true
    → 35 ∷ text ≡ (signs ++ codes "\"") ++ (content ++ (codes "\"" ++ signs))
    → (fewer : List ℕ) × (list_all is_hash fewer ≡ true)
    × (text ≡ ((fewer ++ codes "\"") ++ (content ++ (codes "\"" ++ fewer))) ++ codes "#")
strip_front_sign [] text content h e = absurd (both_ways true (ap (first_passes is_hash) e) refl)
strip_front_sign (c ∷ signs) text content h e =
    let parts = and_parts (is_hash c) (list_all is_hash signs) h in
    let sign : c ≡ 35 = eqb-true c 35 parts.0 in (
      signs,
      parts.1,
      ap (drop 1) e ∙ (ap (λ d.
          (signs ++ codes "\"") ++ (content ++ (34 ∷ (d ∷ signs)))) sign ∙ more_signs signs content parts.1),
    )

-- one hash sign is removed at each end
pub hashed_peel : (text : List ℕ) → hashed_content (35 ∷ (text ++ codes "#")) ≡ hashed_content text
hashed_peel text = same_option _ _ inside outside
  where
    inside : (content : List ℕ) → hashed_content (35 ∷ (text ++ codes "#")) ≡ Some content
        → hashed_content text ≡ Some content
    inside content e =
        let is = hashed_splits (35 ∷ (text ++ codes "#")) content e in
        let fewer = strip_front_sign is.signs (text ++ codes "#") content is.all is.whole in
        hashed_within text content
        (record { signs = fewer.0; all = fewer.1; whole = append_cancel_right _ _ (codes "#") fewer.2 })

    outside : (content : List ℕ) → hashed_content text ≡ Some content
        → hashed_content (35 ∷ (text ++ codes "#")) ≡ Some content
    outside content e =
        let is = hashed_splits text content e in
        hashed_within (35 ∷ (text ++ codes "#")) content (record {
          signs = 35 ∷ is.signs;
          all = is.all;
          whole = ap (λ xs. 35 ∷ xs) (ap (λ xs. xs ++ codes "#") is.whole ∙ sym (more_signs is.signs content is.all));
        })

-- a hash sign at the start only
pub hashed_alone : (text : List ℕ) → before (codes "#") text ≡ None → hashed_content (35 ∷ text) ≡ None
hashed_alone text none =
    no_option (hashed_content (35 ∷ text)) (λ content e.
    let is = hashed_splits (35 ∷ text) content e in
    let fewer = strip_front_sign is.signs text content is.all is.whole in
    not_some _ (sym none ∙ (ap (before (codes "#")) fewer.2 ∙ before_back (codes "#") _)))

no_hashes : (text : List ℕ) → strip_front (codes "#") text ≡ None → hashes text ≡ []
no_hashes [] e = refl
no_hashes (c ∷ text) e = step (is_hash c) refl
  where
    step : (b : Bool) → is_hash c ≡ b → hashes (c ∷ text) ≡ []
    step true h = absurd (not_some text
        (sym e ∙ (ap (λ d. strip_front (codes "#") (d ∷ text)) (eqb-true c 35 h) ∙ strip_front_of (codes "#") text)))
    step false h = cond-false _ _ _ h

-- no hash sign at the start
pub hashed_plain : (text : List ℕ) → strip_front (codes "#") text ≡ None
    → hashed_content text ≡ cooked_content (codes "\"") text
unfolding hashed_content
hashed_plain text e = ap (λ s. between (s ++ codes "\"") (codes "\"" ++ s) text) (no_hashes text e)

-- ---- the clauses of `strip_prefix` and `strip_suffix`

pub strip_front_found : (front text : List ℕ) (r : Option (Bor (List ℕ)))
    → MatchOption r (begins_with front text ≡ false) (λ x. text ≡ front ++ chars x.now)
    → MatchOption r (strip_front front text ≡ None) (λ x. strip_front front text ≡ Some (chars x.now))
strip_front_found front text None h = strip_front_none front text h
strip_front_found front text (Some x) h = ap (strip_front front) h ∙ strip_front_of front (chars x.now)

-- a UTF-8 text without the ASCII character at its end is UTF-8
utf8_before : (text front : List ℕ) (c : ℕ) → IsUtf8 text → text ≡ front ++ (c ∷ []) → c < 128 → IsUtf8 front
utf8_before text front c utf8 whole low =
    let byte : get_or text (length front) 0 ≡ c = ap (λ xs. get_or xs (length front) 0) whole
    ∙ get_or_at front c [] 0 (length front) refl in
    let within : length front < length text = omega (arith, ap length whole, length-append front (c ∷ [])) in
    let cut : take (length front) text ≡ front = ap (take (length front)) whole
    ∙ take_at front (c ∷ []) (length front) refl in
    subst IsUtf8 cut (IsUtf8-take text (length front) utf8
    (IsCharBoundary-before_ascii text (length front) within (subst (λ b. b < 128) (sym byte) low)))

pub before_found : (c : ℕ) (text : List ℕ) (r : Option (Bor (List ℕ))) → c < 128 → IsUtf8 text
    → MatchOption r ((front : List ℕ) → text ≢ front ++ (c ∷ [])) (λ x. text ≡ x.now ++ (c ∷ []))
    → MatchOption r (before (c ∷ []) (chars text) ≡ None) (λ x. before (c ∷ []) (chars text) ≡ Some (chars x.now))
before_found c text None low utf8 none =
    before_none (c ∷ []) (chars text) (λ front e.
    none (encode_utf8_all front)
    (seam_bytes text front (c ∷ []) utf8 e ∙ ap (λ b. encode_utf8_all front ++ (b ++ [])) (encode_ascii c low)))
before_found c text (Some x) low utf8 whole =
    let split : chars text ≡ chars x.now ++ (c ∷ []) =
    ap chars whole ∙ (chars-append x.now (c ∷ []) (utf8_before text x.now c utf8 whole low)
    ∙ ap (λ xs. chars x.now ++ xs) (chars-IsAscii (c ∷ []) (IsAscii-cons c [] low IsAscii-nil))) in
    ap (before (c ∷ [])) split ∙ before_back (c ∷ []) (chars x.now)

-- ---- the loop over the hash signs

-- a hash sign at the start only: there is no content
pub stop_signs : (all quoted rest : List ℕ) → hashed_content quoted ≡ hashed_content all
    → strip_front (codes "#") quoted ≡ Some rest → before (codes "#") rest ≡ None → hashed_content all ≡ None
stop_signs all quoted rest same front back = sym same
    ∙ (ap hashed_content (strip_front_splits (codes "#") quoted rest front) ∙ hashed_alone rest back)

-- a hash sign at each end is removed
pub past_signs : (all quoted rest inside : List ℕ) → hashed_content quoted ≡ hashed_content all
    → strip_front (codes "#") quoted ≡ Some rest → before (codes "#") rest ≡ Some inside
    → hashed_content inside ≡ hashed_content all
past_signs all quoted rest inside same front back =
    sym (hashed_peel inside) ∙ (ap (λ xs. hashed_content (35 ∷ xs)) (sym (before_splits (codes "#") rest inside back))
    ∙ (sym (ap hashed_content (strip_front_splits (codes "#") quoted rest front)) ∙ same))

-- the remaining text is shorter
pub past_shorter : (quoted rest inside : List ℕ) → strip_front (codes "#") quoted ≡ Some rest
    → before (codes "#") rest ≡ Some inside → length inside < length quoted
past_shorter quoted rest inside front back =
    let first = ap length (strip_front_splits (codes "#") quoted rest front) in
    let last = ap length (before_splits (codes "#") rest inside back) in
    omega (arith, first, last, length-append inside (codes "#"))

-- no hash sign at the start: the rest is a quoted content
pub no_signs : (all quoted : List ℕ) (r : Option (Bor (List ℕ))) → hashed_content quoted ≡ hashed_content all
    → strip_front (codes "#") quoted ≡ None
    → MatchOption r (cooked_content (codes "\"") quoted ≡ None) (λ x. cooked_content (codes "\"") quoted
    ≡ Some (chars x.now))
    → MatchOption r (hashed_content all ≡ None) (λ x. hashed_content all ≡ Some (chars x.now))
no_signs all quoted None same front h = sym same ∙ (hashed_plain quoted front ∙ h)
no_signs all quoted (Some x) same front h = sym same ∙ (hashed_plain quoted front ∙ h)
