-- A reason holds with one wrong part of a text only.
use Rattle.std.proofs.Common.{◌≡◌, ℕ, Bool, true, false, not, List, [], ◌∷◌, ◌++◌, codes, length}
use Rattle.std.proofs.Common.{inl, inr, refl, sym, ap, ap₂, ◌∙◌, subst, arith, length-append}
use Rattle.std.specs.Char.{is_ascii_digit}
use Rattle.std.proofs.lemmas.Bool.{both_ways, or_left, or_parts}
use Rattle.std.proofs.lemmas.List.{append_cancel_right}
use Rattle.lexical.specs.Comment.{closing, comment, has_bare_return}
use Rattle.lexical.specs.Number.{integer}
use Rattle.lexical.specs.Quoted.{front as string_front}
use Rattle.lexical.specs.Rule.{Rule, One, Exactly, nothing}
use Rattle.lexical.specs.Text.{begins_with}
use Rattle.lexical.specs.declared.bytes.Base.{Base}
use Rattle.lexical.specs.declared.quoted.StringKind.{StringKind}
use Rattle.lexical.specs.declared.quoted.StringKind.TheVariants as kinds
use Rattle.lexical.proofs.RuleLemmas.{Clear, one_split}
use Rattle.literal_escaper.specs.declared.errors.EscapeError.{EscapeError}
use Rattle.literal_escaper.specs.Escape.{Read, fault}
use Rattle.literal_escaper.specs.Items.{unit_front}
use Rattle.literal_escaper.specs.Kind.{Kind, byte_kind, c_kind, string_kind}
use Rattle.literal_escaper.specs.Single.{single}
use Rattle.explain.specs.Content as contents
use Rattle.explain.specs.Content.{GivesFault, IsAtFault, IsBadContent, IsBadRaw, IsBadSingle, IsBadString, IsBareReturn}
use Rattle.explain.specs.Content.{IsPart, SingleFault, StringFault, is_of_last, is_of_literal}
use Rattle.explain.specs.Reason.{Begins, Follow, Holds}
use Rattle.explain.specs.Shapes.{bare_prefix, base_front, digit_lifetime, ends_badly, begins_nothing, hashed_front}
use Rattle.explain.specs.Shapes.{lifetime}
use Rattle.explain.specs.Shapes.{long_opening, no_double_quote, raw_opening, reserved_raw, single_opening}
use Rattle.explain.specs.Shapes.{single_front}
use Rattle.explain.specs.declared.quotes.SingleKind.{SingleKind}
use Rattle.explain.specs.declared.quotes.SingleKind.TheVariants as singles
use Rattle.explain.specs.declared.reason.Reason.{Reason}
use Rattle.explain.specs.declared.reason.Reason.TheVariants as reasons
use Rattle.explain.proofs.OneContentLemmas.{IsPlace, IsRawPlace, IsSinglePlace, not_letters_single, not_quotes_letters}
use Rattle.explain.proofs.OneContentLemmas.{not_quotes_single, one_raw_rest, one_rest, one_single_content, place_front}
use Rattle.explain.proofs.OneContentLemmas.{place_of, raw_place_front, raw_place_of, same_letters, same_quotes}
use Rattle.explain.proofs.OneContentLemmas.{same_singles, single_place_front, single_place_of}
use Rattle.explain.proofs.MainReason.{Letters, Quotes, front_of, letters_front, quotes_front}
use Rattle.explain.proofs.NumberReasonLemmas.{bad_digit_whole, no_digits_whole, same_base}
use Rattle.explain.proofs.TextReasonLemmas.{at_front, hashed_signed, long_opens, opening_signed}

-- ---- wrong parts at the start of the text

-- the wrong part and the text before it are the same
abbrev pub Same : List ℕ → List ℕ → List ℕ → List ℕ → Type 0
Same f p g q = (f ≡ g) × (p ≡ q)

follow_place : (a b : Rule) → Clear a → Clear b → (f p r g q s : List ℕ) → Follow a b f p r → Follow a b g q s
    → f ++ (p ++ r) ≡ g ++ (q ++ s) → Same f p g q
follow_place a b clear also f p r g q s is other e =
    let front = one_split a clear f g (p ++ r) (q ++ s) is.0 other.0 e in
    (front.0, (one_split b also p q r s is.1 other.1 front.1).0)

begins_place : (rule : Rule) → Clear rule → (f p r g q s : List ℕ) → Begins rule f p r → Begins rule g q s
    → f ++ (p ++ r) ≡ g ++ (q ++ s) → Same f p g q
begins_place rule clear = follow_place nothing rule tt clear

-- ---- kinds and bases

string_kind_of : (kind : StringKind) (f p r : List ℕ) → Begins (Exactly (string_front kind)) f p r
    → front_of (f ++ (p ++ r)) ≡ Quotes kind
string_kind_of kind f p r is =
    quotes_front kind (f ++ (p ++ r)) r (at_front f p r is.0 ∙ ap (λ t. t ++ r) is.1)

raw_kind_of : (kind : StringKind) (f p r : List ℕ) → Begins (raw_opening kind) f p r
    → front_of (f ++ (p ++ r)) ≡ Letters kind
raw_kind_of kind f p r is =
    letters_front kind (f ++ (p ++ r)) _ (opening_signed kind (f ++ (p ++ r)) p r (at_front f p r is.0) is.1).0.whole

string_place : (a b : StringKind) (f p r g q s : List ℕ) → Begins (Exactly (string_front a)) f p r
    → Begins (Exactly (string_front b)) g q s → f ++ (p ++ r) ≡ g ++ (q ++ s) → Same f p g q
string_place a b f p r g q s is other e =
    let same = same_quotes a b (f ++ (p ++ r)) (string_kind_of a f p r is)
    (ap front_of e ∙ string_kind_of b g q s other) in
    begins_place (Exactly (string_front b)) tt f p r g q s
    (subst (λ k. Begins (Exactly (string_front k)) f p r) same is) other e

raw_place : (a b : StringKind) (f p r g q s : List ℕ) → Begins (raw_opening a) f p r → Begins (raw_opening b) g q s
    → f ++ (p ++ r) ≡ g ++ (q ++ s) → Same f p g q
raw_place a b f p r g q s is other e =
    let same = same_letters a b (f ++ (p ++ r)) (raw_kind_of a f p r is) (ap front_of e ∙ raw_kind_of b g q s other) in
    begins_place (raw_opening b) (assumption) f p r g q s (subst (λ k. Begins (raw_opening k) f p r) same is) other e

long_place : (a b : StringKind) (f p r g q s : List ℕ) → Begins (long_opening a) f p r → Begins (long_opening b) g q s
    → f ++ (p ++ r) ≡ g ++ (q ++ s) → Same f p g q
long_place a b f p r g q s is other =
    raw_place a b f p r g q s (is.0, long_opens a p r is.1) (other.0, long_opens b q s other.1)

hashes_place : (a b : StringKind) (f p r g q s : List ℕ) → Follow (hashed_front a) no_double_quote f p r
    → Follow (hashed_front b) no_double_quote g q s → f ++ (p ++ r) ≡ g ++ (q ++ s) → Same f p g q
hashes_place a b f p r g q s is other e =
    let same = same_letters a b (f ++ (p ++ r))
    (letters_front a _ _ (hashed_signed a f p r is).0.whole)
    (ap front_of e ∙ letters_front b _ _ (hashed_signed b g q s other).0.whole) in
    follow_place (hashed_front b) no_double_quote (assumption) (assumption) f p r g q s
    (subst (λ k. Follow (hashed_front k) no_double_quote f p r) same is) other e

no_digits_place : (a b : Base) (f p r g q s : List ℕ) → Begins (bare_prefix a) f p r → Begins (bare_prefix b) g q s
    → f ++ (p ++ r) ≡ g ++ (q ++ s) → Same f p g q
no_digits_place a b f p r g q s is other e =
    let same : a ≡ b = same_base a b _ _ (sym (no_digits_whole a f p r is) ∙ (e ∙ no_digits_whole b g q s other)) in
    begins_place (bare_prefix b) (assumption) f p r g q s (subst (λ k. Begins (bare_prefix k) f p r) same is) other e

bad_digit_place : (a b : Base) (f p r g q s : List ℕ) → Follow (base_front a) (One is_ascii_digit) f p r
    → Follow (base_front b) (One is_ascii_digit) g q s → f ++ (p ++ r) ≡ g ++ (q ++ s) → Same f p g q
bad_digit_place a b f p r g q s is other e =
    let same : a ≡ b = same_base a b _ _ (sym (bad_digit_whole a f p r is) ∙ (e ∙ bad_digit_whole b g q s other)) in
    follow_place (base_front b) (One is_ascii_digit) (assumption) tt f p r g q s
    (subst (λ k. Follow (base_front k) (One is_ascii_digit) f p r) same is) other e

-- ---- a CR in a doc comment

pub same_size : (a b r s : List ℕ) → a ++ r ≡ b ++ s → length a ≡ length b → (a ≡ b) × (r ≡ s)
same_size [] [] r s e size = (refl, e)
same_size [] (y ∷ b) r s e size = absurd (omega (arith, size))
same_size (x ∷ a) [] r s e size = absurd (omega (arith, size))
same_size (x ∷ a) (y ∷ b) r s e size =
    let rest : a ++ r ≡ b ++ s = cc in
    let more = same_size a b r s rest (omega (arith, size)) in
    let first : x ≡ y = cc in
    (ap₂ (λ z t. z ∷ t) first more.0, more.1)

-- if a text begins with a bare CR, the text before a later CR has a bare one
not_first : (c : ℕ) (b r s : List ℕ) → 13 ∷ r ≡ c ∷ (b ++ (13 ∷ s)) → begins_with (codes "\n") r ≡ false
    → has_bare_return (c ∷ b) ≡ false → ⊥
not_first c [] r s e plain none =
    let first : c ≡ 13 = cc in
    both_ways _ (ap (λ d. has_bare_return (d ∷ [])) (sym first) ∙ none) refl
not_first c (d ∷ b) r s e plain none =
    let first : c ≡ 13 = cc in
    let rest : r ≡ d ∷ (b ++ (13 ∷ s)) = cc in
    let here : begins_with (codes "\n") (d ∷ (b ++ (13 ∷ s))) ≡ false = ap (begins_with (codes "\n")) (sym rest)
    ∙ plain in
    let bare : begins_with (codes "\n") (d ∷ b) ≡ false = here in
    both_ways _ (ap (λ x. has_bare_return (x ∷ d ∷ b)) (sym first) ∙ none) (or_left _ _ (ap not bare))

-- only one CR is the first with no LF after it
first_bare : (a b r s : List ℕ) → a ++ (13 ∷ r) ≡ b ++ (13 ∷ s) → begins_with (codes "\n") r ≡ false
    → begins_with (codes "\n") s ≡ false → has_bare_return a ≡ false → has_bare_return b ≡ false → a ≡ b
first_bare [] [] r s e plain also none other = refl
first_bare [] (c ∷ b) r s e plain also none other = absurd (not_first c b r s e plain other)
first_bare (c ∷ a) [] r s e plain also none other = absurd (not_first c a s r (sym e) also none)
first_bare (c ∷ a) (d ∷ b) r s e plain also none other =
    let first : c ≡ d = cc in
    let rest : a ++ (13 ∷ r) ≡ b ++ (13 ∷ s) = cc in
    ap₂ (λ x t. x ∷ t) first (first_bare a b r s rest plain also (or_parts _ _ none).1 (or_parts _ _ other).1)

bare_place : (f p r g q s : List ℕ) → IsBareReturn f p r → IsBareReturn g q s → f ++ (p ++ r) ≡ g ++ (q ++ s)
    → Same f p g q
bare_place f p r g q s is other e =
    let one = one_split comment (assumption) is.comment other.comment is.after other.after is.stands.0 other.stands.0
    (sym is.whole ∙ (e ∙ other.whole)) in
    let doc_body : is.opening ++ ((is.before ++ (p ++ is.more)) ++ closing is.comment is.after)
    ≡ other.opening ++ ((other.before ++ (q ++ other.more)) ++ closing other.comment other.after) =
    sym is.text ∙ (one.0 ∙ other.text) in
    let opening = same_size is.opening other.opening _ _ doc_body (is.three ∙ sym other.three) in
    let inner : is.before ++ (p ++ is.more) ≡ other.before ++ (q ++ other.more) =
    append_cancel_right _ _ (closing other.comment other.after)
    (ap (λ t. (is.before ++ (p ++ is.more)) ++ t) (ap₂ closing (sym one.0) (sym one.1)) ∙ opening.1) in
    let part : p ≡ q = is.return ∙ sym other.return in
    let before : is.before ≡ other.before =
    first_bare is.before other.before is.more other.more
    (ap (λ t. is.before ++ (t ++ is.more)) (sym is.return)
    ∙ (inner ∙ ap (λ t. other.before ++ (t ++ other.more)) other.return)) is.bare other.bare is.first other.first in
    (is.place ∙ (ap₂ (λ a b. a ++ b) opening.0 before ∙ sym other.place), part)

-- ---- contents

-- the wrong part of what was read is determined
one_part : (e : EscapeError) (a p b q : List ℕ) → IsAtFault e a p → IsAtFault e b q → a ++ p ≡ b ++ q → Same a p b q
one_part e = by_last (is_of_last e)
  where
    by_last : (last : Bool) (a p b q : List ℕ) → IsPart last a p → IsPart last b q → a ++ p ≡ b ++ q → Same a p b q
    by_last true a p b q is other same =
        let size : length a ≡ length b =
        omega (arith, ap length same, length-append a p, length-append b q, ap length is.1, ap length other.1) in
        same_size a b p q same size
    by_last false a p b q is other same = (is ∙ sym other, ap (λ t. t ++ p) (sym is) ∙ (same ∙ ap (λ t. t ++ q) other))

-- the text that is left after an error is determined
one_left : {U : Type 0} (read : Read U) (e : EscapeError) (left rest : List ℕ) → read ≡ fault e left
    → read ≡ fault e rest → left ≡ rest
one_left read e left rest is other = ap (λ r. r.rest) (sym is ∙ other)

given_left : {U : Type 0} (kind : Kind U) (e : EscapeError) (content left rest : List ℕ)
    → GivesFault kind e content left → GivesFault kind e content rest → left ≡ rest
given_left kind e [] left rest is other = absurd is
given_left kind e (c ∷ text) left rest is other = one_left (unit_front kind c text) e left rest is other

string_left : (kind : StringKind) (e : EscapeError) (content left rest : List ℕ) → StringFault kind e content left
    → StringFault kind e content rest → left ≡ rest
string_left kinds.Plain = given_left string_kind
string_left kinds.Byte = given_left byte_kind
string_left kinds.C = given_left c_kind

single_left : (kind : SingleKind) (e : EscapeError) (content left rest : List ℕ) → SingleFault kind e content left
    → SingleFault kind e content rest → left ≡ rest
single_left singles.Character e content left rest = one_left (single string_kind content) e left rest
single_left singles.Byte e content left rest = one_left (single byte_kind content) e left rest

-- equal texts have the same content, and the same text after it
string_rests : (kind : StringKind) (e : EscapeError) (a b : List ℕ) → a ≡ b → (x : IsPlace kind e a)
    → (y : IsPlace kind e b) → (x.content ≡ y.content) × (x.tail ≡ y.tail)
string_rests kind e a b same x =
    subst (λ t. (y : IsPlace kind e t) → (x.content ≡ y.content) × (x.tail ≡ y.tail)) same
    (λ y. one_rest kind e e a x y)

raw_rests : (kind : StringKind) (e : EscapeError) (a b : List ℕ) → a ≡ b → (x : IsRawPlace kind e a)
    → (y : IsRawPlace kind e b) → x.character ∷ x.more ≡ y.character ∷ y.more
raw_rests kind e a b same x =
    subst (λ t. (y : IsRawPlace kind e t) → x.character ∷ x.more ≡ y.character ∷ y.more) same
    (λ y. one_raw_rest kind e e a x y)

single_contents : (kind : SingleKind) (e : EscapeError) (a b : List ℕ) → a ≡ b → (x : IsSinglePlace kind e a)
    → (y : IsSinglePlace kind e b) → x.content ≡ y.content
single_contents kind e a b same x =
    subst (λ t. (y : IsSinglePlace kind e t) → x.content ≡ y.content) same
    (λ y. one_single_content kind a e e x y)

bad_string_place : (kind : StringKind) (e : EscapeError) (f p r g q s : List ℕ) → IsBadString kind e f p r
    → IsBadString kind e g q s → f ++ (p ++ r) ≡ g ++ (q ++ s) → Same f p g q
unfolding place_of
bad_string_place kind e f p r g q s is other same =
    let rests : ((is.start ++ p) ++ is.left ≡ (other.start ++ q) ++ other.left) × (is.tail ≡ other.tail) =
    string_rests kind e (f ++ (p ++ r)) (g ++ (q ++ s)) same (place_of kind e f p r is) (place_of kind e g q s other) in
    let left : is.left ≡ other.left =
    string_left kind e ((other.start ++ q) ++ other.left) is.left other.left
    (subst (λ t. StringFault kind e t is.left) rests.0 is.gives) other.gives in
    let read : is.start ++ p ≡ other.start ++ q =
    append_cancel_right _ _ other.left (ap (λ t. (is.start ++ p) ++ t) (sym left) ∙ rests.0) in
    let part = one_part e is.start p other.start q is.part other.part read in
    let after : r ≡ s = is.back ∙ (ap₂ (λ a b. a ++ (34 ∷ b)) left rests.1 ∙ sym other.back) in
    (append_cancel_right f g (q ++ s) (ap₂ (λ a b. f ++ (a ++ b)) (sym part.1) (sym after) ∙ same), part.1)

bad_raw_place : (kind : StringKind) (e : EscapeError) (f p r g q s : List ℕ) → IsBadRaw kind e f p r
    → IsBadRaw kind e g q s → f ++ (p ++ r) ≡ g ++ (q ++ s) → Same f p g q
unfolding raw_place_of
bad_raw_place kind e f p r g q s is other same =
    let rests : is.character ∷ r ≡ other.character ∷ s =
    raw_rests kind e (f ++ (p ++ r)) (g ++ (q ++ s)) same (raw_place_of kind e f p r is)
    (raw_place_of kind e g q s other) in
    let first : is.character ≡ other.character = cc in
    let after : r ≡ s = cc in
    let part : p ≡ q = is.one ∙ (ap (λ c. c ∷ []) first ∙ sym other.one) in
    (append_cancel_right f g (q ++ s) (ap₂ (λ a b. f ++ (a ++ b)) (sym part) (sym after) ∙ same), part)

-- the whole literal is wrong, or a part of its content
single_place : (e : EscapeError) (whole : Bool) (front content left f p rest g q : List ℕ)
    → contents.IsSinglePlace whole e front content left f p → contents.IsSinglePlace whole e front content rest g q
    → left ≡ rest
    → Same f p g q
single_place e true front content left f p rest g q is other same = (is.0 ∙ sym other.0, is.1 ∙ sym other.1)
single_place e false front content left f p rest g q is other same =
    let read : is.0 ++ p ≡ other.0 ++ q =
    append_cancel_right _ _ rest (ap (λ t. (is.0 ++ p) ++ t) (sym same) ∙ (sym is.2 ∙ other.2)) in
    let part = one_part e is.0 p other.0 q is.3 other.3 read in
    (is.1 ∙ (ap (λ t. front ++ t) part.0 ∙ sym other.1), part.1)

bad_single_place : (kind : SingleKind) (e : EscapeError) (f p r g q s : List ℕ) → IsBadSingle kind e f p r
    → IsBadSingle kind e g q s → f ++ (p ++ r) ≡ g ++ (q ++ s) → Same f p g q
unfolding single_place_of
bad_single_place kind e f p r g q s is other same =
    let content : is.content ≡ other.content =
    single_contents kind e (f ++ (p ++ r)) (g ++ (q ++ s)) same (single_place_of kind e f p r is)
    (single_place_of kind e g q s other) in
    let left : is.left ≡ other.left =
    single_left kind e other.content is.left other.left (subst (λ t. SingleFault kind e t is.left) content is.gives)
    other.gives in
    single_place e (is_of_literal e) (single_front kind) other.content is.left f p other.left g q
    (subst (λ t. contents.IsSinglePlace (is_of_literal e) e
    (single_front kind) t is.left f p) content is.place) other.place
    left

content_place : (e : EscapeError) (f p r g q s : List ℕ) → IsBadContent e f p r → IsBadContent e g q s
    → f ++ (p ++ r) ≡ g ++ (q ++ s) → Same f p g q
content_place e f p r g q s (inl is) (inl other) same =
    let kind = same_quotes is.0 other.0 (g ++ (q ++ s))
    (ap front_of (sym same) ∙ place_front is.0 e (f ++ (p ++ r)) (place_of is.0 e f p r is.1))
    (place_front other.0 e (g ++ (q ++ s)) (place_of other.0 e g q s other.1)) in
    bad_string_place other.0 e f p r g q s (subst (λ k. IsBadString k e f p r) kind is.1) other.1 same
content_place e f p r g q s (inr (inl is)) (inr (inl other)) same =
    let kind = same_letters is.0 other.0 (g ++ (q ++ s))
    (ap front_of (sym same) ∙ raw_place_front is.0 e (f ++ (p ++ r)) (raw_place_of is.0 e f p r is.1))
    (raw_place_front other.0 e (g ++ (q ++ s)) (raw_place_of other.0 e g q s other.1)) in
    bad_raw_place other.0 e f p r g q s (subst (λ k. IsBadRaw k e f p r) kind is.1) other.1 same
content_place e f p r g q s (inr (inr is)) (inr (inr other)) same =
    let kind = same_singles is.0 other.0 (g ++ (q ++ s))
    (ap front_of (sym same) ∙ single_place_front is.0 e (f ++ (p ++ r)) (single_place_of is.0 e f p r is.1))
    (single_place_front other.0 e (g ++ (q ++ s)) (single_place_of other.0 e g q s other.1)) in
    bad_single_place other.0 e f p r g q s (subst (λ k. IsBadSingle k e f p r) kind is.1) other.1 same
content_place e f p r g q s (inl is) (inr (inl other)) same =
    absurd (not_quotes_letters is.0 other.0 (g ++ (q ++ s))
    (ap front_of (sym same) ∙ place_front is.0 e (f ++ (p ++ r)) (place_of is.0 e f p r is.1))
    (raw_place_front other.0 e (g ++ (q ++ s)) (raw_place_of other.0 e g q s other.1)))
content_place e f p r g q s (inl is) (inr (inr other)) same =
    absurd (not_quotes_single is.0 other.0 (g ++ (q ++ s))
    (ap front_of (sym same) ∙ place_front is.0 e (f ++ (p ++ r)) (place_of is.0 e f p r is.1))
    (single_place_front other.0 e (g ++ (q ++ s)) (single_place_of other.0 e g q s other.1)))
content_place e f p r g q s (inr (inl is)) (inl other) same =
    absurd (not_quotes_letters other.0 is.0 (g ++ (q ++ s))
    (place_front other.0 e (g ++ (q ++ s)) (place_of other.0 e g q s other.1))
    (ap front_of (sym same) ∙ raw_place_front is.0 e (f ++ (p ++ r)) (raw_place_of is.0 e f p r is.1)))
content_place e f p r g q s (inr (inl is)) (inr (inr other)) same =
    absurd (not_letters_single is.0 other.0 (g ++ (q ++ s))
    (ap front_of (sym same) ∙ raw_place_front is.0 e (f ++ (p ++ r)) (raw_place_of is.0 e f p r is.1))
    (single_place_front other.0 e (g ++ (q ++ s)) (single_place_of other.0 e g q s other.1)))
content_place e f p r g q s (inr (inr is)) (inl other) same =
    absurd (not_quotes_single other.0 is.0 (g ++ (q ++ s))
    (place_front other.0 e (g ++ (q ++ s)) (place_of other.0 e g q s other.1))
    (ap front_of (sym same) ∙ single_place_front is.0 e (f ++ (p ++ r)) (single_place_of is.0 e f p r is.1)))
content_place e f p r g q s (inr (inr is)) (inr (inl other)) same =
    absurd (not_letters_single other.0 is.0 (g ++ (q ++ s))
    (raw_place_front other.0 e (g ++ (q ++ s)) (raw_place_of other.0 e g q s other.1))
    (ap front_of (sym same) ∙ single_place_front is.0 e (f ++ (p ++ r)) (single_place_of is.0 e f p r is.1)))

-- ---- each reason

pub one_place : (x : Reason) (f p r g q s : List ℕ) → Holds x f p r → Holds x g q s
    → f ++ (p ++ r) ≡ g ++ (q ++ s) → (f ≡ g) × (p ≡ q)
one_place reasons.UnclosedComment f p r g q s is other e =
    begins_place (Exactly (codes "/*")) tt f p r g q s is.0 other.0 e
one_place reasons.BareReturnInDoc f p r g q s is other e = bare_place f p r g q s is other e
one_place reasons.UnclosedString f p r g q s is other e = string_place is.0 other.0 f p r g q s is.1 other.1 e
one_place reasons.UnclosedRawString f p r g q s is other e = raw_place is.0 other.0 f p r g q s is.1 other.1 e
one_place reasons.TooManyHashes f p r g q s is other e = long_place is.0 other.0 f p r g q s is.1 other.1 e
one_place reasons.HashesWithoutQuote f p r g q s is other e = hashes_place is.0 other.0 f p r g q s is.1 other.1 e
one_place reasons.ReservedRawName f p r g q s is other e =
    begins_place reserved_raw (assumption) f p r g q s is other e
one_place reasons.UnclosedCharacter f p r g q s is other e =
    begins_place single_opening (assumption) f p r g q s is.0 other.0 e
one_place (reasons.Content o) f p r g q s is other e = content_place o f p r g q s is other e
one_place reasons.DigitLifetime f p r g q s is other e =
    begins_place digit_lifetime (assumption) f p r g q s is other e
one_place reasons.HashAfterLifetime f p r g q s is other e =
    follow_place lifetime (Exactly (codes "#")) (assumption) tt f p r g q s is.0 other.0 e
one_place reasons.NoDigits f p r g q s is other e = no_digits_place is.0 other.0 f p r g q s is.1 other.1 e
one_place reasons.BadDigit f p r g q s is other e = bad_digit_place is.0 other.0 f p r g q s is.1 other.1 e
one_place reasons.BadNumberEnd f p r g q s is other e =
    follow_place integer (One ends_badly) (assumption) tt f p r g q s is other e
one_place reasons.MisplacedMark f p r g q s is other e =
    begins_place (Exactly (0xFEFF ∷ [])) tt f p r g q s is other e
one_place reasons.NoToken f p r g q s is other e = begins_place (One begins_nothing) tt f p r g q s is other e
one_place reasons.StrayCloser f p r g q s is other e = absurd is
one_place reasons.MismatchedCloser f p r g q s is other e = absurd is
one_place reasons.UnclosedOpener f p r g q s is other e = absurd is
