-- Comparing words.
use Rattle.std.proofs.Common.{◌≡◌, ◌↔◌, ℕ, Bool, true, false, IsTrue, List, [], ◌∷◌, ◌++◌}
use Rattle.std.proofs.Common.{Option, Some, None, Result, Ok, nat_eq, refl, sym, ap, ap₂, ◌∙◌, subst, append_assoc}
use Rattle.std.proofs.Common.{option_map, IfSome, IfNone}
use Rattle.std.specs.Cmp.Lexicographic.{pointwise}
use Rattle.std.proofs.Math.Bool.{beq}
use Rattle.std.specs.Str.{chars, IsUtf8, encode_utf8_all}
use Rattle.std.proofs.lemmas.Slice.Eq.{bytes_eq-Decides}
use Rattle.std.specs.Prelude.{String, string_bytes}
use Rattle.std.proofs.lemmas.Str.{encodes-chars, encodes_same, scalars-chars, IsUtf8-string_bytes}
use Rattle.lexical.specs.Token as tokens
use Rattle.pm_token.specs.Escaped.{string_text}
use Rattle.pm_token.specs.Text.{IsText}
use Rattle.pm_token.specs.Value.{str_value}
use Rattle.pm_token.specs.declared.literals.conversion.ConversionErrorKind.{ConversionErrorKind}
use Rattle.pm_token.proofs.ValueLawLemmas.{strings_come_back}
use Rattle.pm_stream.specs.Events.{One}
use Rattle.lexical.specs.Cover.{StandBefore, IsCover}
use Rattle.lexical.specs.Piece.{Piece}
use Rattle.same.specs.Difference.{SoFar, bare}
use Rattle.same.specs.SourceWord.{Comment, Placed, Token, doc_left, word_of}
use Rattle.same.specs.Words.{ComesFirst, Covers, placed_onto, words, words_left}
use Rattle.same.specs.declared.words.Words.{Words}
use Rattle.same.specs.declared.source_word.SourceWord.{SourceWord}

-- ---- texts

-- two texts are equal exactly if their bytes are
pub texts_same : (s t : List ℕ) (r : Bool) → IsUtf8 s → IsUtf8 t → r ≡ pointwise nat_eq s t
    → IsTrue r ↔ (chars s ≡ chars t)
texts_same s t r utf8 other is =
    let bytes = bytes_eq-Decides s t in (
      λ h. ap chars (bytes.0 (sym is ∙ h)),
      λ e. is ∙ bytes.1 (sym (encodes-chars s utf8) ∙ (ap encode_utf8_all e ∙ encodes-chars t other)),
    )

-- two string literals are the same only if their texts are
pub strings_same : (a b : List ℕ) → IsText a → IsText b → string_text a ≡ string_text b → a ≡ b
strings_same a b text other same =
    let values : ◌≡◌ {A = Result (List ℕ) ConversionErrorKind} (Ok a) (Ok b) =
    sym (strings_come_back a text) ∙ (ap str_value same ∙ strings_come_back b other) in
    cc

pub literals_same : (a b : List ℕ) (r : Bool) → (IsTrue r ↔ (a ≡ b))
    → IsTrue r ↔ (Token (One (tokens.Literal a) 0 0) ≡ Token (One (tokens.Literal b) 0 0))
literals_same a b r h = (
  λ is. ap (λ x. Token (One (tokens.Literal x) 0 0)) (h.0 is),
  λ e. h.1 (let same : a ≡ b = cc in same),
)

pub docs_same : (s t : List ℕ) (r : Bool) → IsUtf8 s → IsUtf8 t → r ≡ pointwise nat_eq s t
    → IsTrue r ↔ (string_text (chars s) ≡ string_text (chars t))
docs_same s t r utf8 other is =
    let texts = texts_same s t r utf8 other is in (
      λ h. ap string_text (texts.0 h),
      λ e. texts.1 (strings_same (chars s) (chars t) (scalars-chars s utf8) (scalars-chars t other) e),
    )

pub comments_same : (a b : List ℕ) (r : Bool) → (IsTrue r ↔ (a ≡ b)) → IsTrue r ↔ (Comment a ≡ Comment b)
comments_same a b r h = (λ is. ap Comment (h.0 is), λ e. h.1 (let same : a ≡ b = cc in same))

pub same_bools : (a b : Bool) → beq a b ≡ true → a ≡ b
same_bools true true e = refl
same_bools false false e = refl
same_bools true false e = absurd (cc)
same_bools false true e = absurd (cc)

pub names_same : (raw other_raw : Bool) (a b : List ℕ) (r : Bool) → raw ≡ other_raw → (IsTrue r ↔ (a ≡ b))
    → IsTrue r ↔ (Token (One (tokens.Name raw a) 0 0) ≡ Token (One (tokens.Name other_raw b) 0 0))
names_same raw other_raw a b r raws h = (
  λ is. ap₂ (λ x y. Token (One (tokens.Name x y) 0 0)) raws (h.0 is),
  λ e. h.1 (let same : a ≡ b = cc in same),
)

pub string_same : {Z : Type 0} (s : String Z) (built text bytes other : List ℕ) (r : Bool)
    → string_bytes s ≡ encode_utf8_all built → built ≡ text → bytes ≡ string_bytes s → IsUtf8 bytes → IsUtf8 other
    → r ≡ pointwise nat_eq bytes other → IsTrue r ↔ (text ≡ chars other)
string_same s built text bytes other r made is lent utf8 other_utf8 decides =
    let spelled : chars bytes ≡ text =
    ap chars lent ∙ (encodes_same _ _ (encodes-chars (string_bytes s) (IsUtf8-string_bytes s) ∙ made) ∙ is) in
    let same = texts_same bytes other r utf8 other_utf8 decides in
    (λ h. sym spelled ∙ same.0 h, λ e. same.1 (spelled ∙ e))

-- ---- word after word

pub bare-append : (xs ys : List Placed) → bare (xs ++ ys) ≡ bare xs ++ bare ys
bare-append [] ys = refl
bare-append (x ∷ xs) ys = ap (λ zs. x.0 ∷ zs) (bare-append xs ys)

-- both texts have gone on after the same words
pub record Goes (comments : Bool) (first second : List ℕ) (ones others : Words) : Type 0 where
  pub goes : (us vs : List Piece) → IsCover us first → IsCover vs second
      → (xs : List Piece) × Covers ones.walk xs × (ys : List Piece) × Covers others.walk ys
      × SoFar (words comments us) (words comments vs) (words_left ones xs) (words_left others ys)

all_left : (comments : Bool) (text : List ℕ) (left : Words) (xs : List Piece) → left.step ≡ None
    → left.comments ≡ comments → words_left left xs ≡ words comments xs
all_left comments text left xs none kept =
    ap₂ (λ step b. placed_onto (doc_left step (chars left.doc.now)) (chars left.here.now) (words b xs)) none kept

covers_all : (text : List ℕ) (left : Words) (xs : List Piece) → left.walk.rest.now ≡ text
    → left.walk.at_front ≡ true → IsCover xs (chars text) → Covers left.walk xs
covers_all text left xs rest front covers =
    (ap chars rest ∙ covers.whole, subst (λ b. StandBefore b xs []) (sym front) covers.stand)

pub goes_start : (comments : Bool) (first second : List ℕ) (ones others : Words) → ones.walk.rest.now ≡ first
    → ones.walk.at_front ≡ true → ones.comments ≡ comments → ones.step ≡ None
    → others.walk.rest.now ≡ second → others.walk.at_front ≡ true → others.comments ≡ comments → others.step ≡ None
    → Goes comments (chars first) (chars second) ones others
goes_start comments first second ones others rest front kept none other_rest other_front other_kept other_none =
    record {
      goes = λ us vs covers other_covers. (
        us,
        covers_all first ones us rest front covers,
        vs,
        covers_all second others vs other_rest other_front other_covers,
        record {
          front = [];
          other_front = [];
          first = sym (all_left comments first ones us none kept);
          second = sym (all_left comments second others vs other_none other_kept);
          same = refl;
        },
      );
    }

-- the second text has this next word, or ends
abbrev pub Next : Words → Option SourceWord → Words → Type 0
Next others (Some other) after = (ys : List Piece) → Covers others.walk ys → ComesFirst others other after ys
Next others None after =
    (ys : List Piece) → Covers others.walk ys → (words_left others ys ≡ []) × (chars after.here.now ≡ [])

so_more : (xs ys more others : List Placed) (x y : Placed) (left right : List Placed) → SoFar xs ys more others
    → more ≡ x ∷ left → others ≡ y ∷ right → x.0 ≡ y.0 → SoFar xs ys left right
so_more xs ys more others x y left right so is other_is same = record {
  front = so.front ++ (x ∷ []);
  other_front = so.other_front ++ (y ∷ []);
  first = so.first ∙ (ap (λ l. so.front ++ l) is ∙ sym (append_assoc so.front (x ∷ []) left));
  second = so.second ∙ (ap (λ l. so.other_front ++ l) other_is ∙ sym (append_assoc so.other_front (y ∷ []) right));
  same =
      bare-append so.front (x ∷ [])
      ∙ (ap₂ (λ l w. l ++ (w ∷ [])) so.same same ∙ sym (bare-append so.other_front (y ∷ [])));
}

-- if both have the same next word, they still have the same words so far
pub goes_on : (comments : Bool) (first second : List ℕ) (ones ones_now others others_now : Words) (one : SourceWord)
    (other : Option SourceWord) → Goes comments first second ones others
    → ((xs : List Piece) → Covers ones.walk xs → ComesFirst ones one ones_now xs) → Next others other others_now
    → Some (word_of one) ≡ option_map word_of other → Goes comments first second ones_now others_now
goes_on comments first second ones ones_now others others_now one None so comes next same =
    absurd (let clash : Some (word_of one) ≡ None = same in cc)
goes_on comments first second ones ones_now others others_now one (Some other) so comes next same = record {
  goes = λ us vs covers other_covers.
      let before = so.goes us vs covers other_covers in
      let mine = comes before.0 before.1 in
      let yours = next before.2 before.3 in
      let words : word_of one ≡ word_of other = cc in (
        mine.more,
        mine.covers,
        yours.more,
        yours.covers,
        so_more _ _ _ _ (word_of one, chars ones_now.here.now) (word_of other, chars others_now.here.now) _ _ before.4
            mine.first yours.first words,
      );
}

-- if both end, all their words are the same
pub all_same : (comments : Bool) (first second : List ℕ) (ones ones_now others others_now : Words)
    → Goes comments first second ones others → Next ones None ones_now → Next others None others_now
    → (us vs : List Piece) → IsCover us first → IsCover vs second
    → bare (words comments us) ≡ bare (words comments vs)
all_same comments first second ones ones_now others others_now so ends next us vs covers other_covers =
    let before = so.goes us vs covers other_covers in
    let so_far = before.4 in
    let mine = (ends before.0 before.1).0 in
    let yours = (next before.2 before.3).0 in
    ap bare (so_far.first ∙ ap (λ l. so_far.front ++ l) mine)
    ∙ (bare-append so_far.front [] ∙ (ap (λ l. l ++ []) so_far.same
    ∙ (sym (bare-append so_far.other_front [])
    ∙ sym (ap bare (so_far.second ∙ ap (λ l. so_far.other_front ++ l) yours)))))

-- the call for the next word gives it, or the end
pub next_of : (others after : Words) (other : Option SourceWord)
    → IfSome other (λ source_word. (ys : List Piece) → Covers others.walk ys → ComesFirst others source_word after ys)
    → IfNone other ((ys : List Piece) → Covers others.walk ys
    → (words_left others ys ≡ []) × (chars after.here.now ≡ []))
    → Next others other after
next_of others after None some none = none
next_of others after (Some other) some none = some
