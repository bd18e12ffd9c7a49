-- A number before a dot that does not belong to it.
use Rattle.std.proofs.Common.{None, Some, ap₂, append-nil, codes}
use Rattle.std.proofs.Common.{◌≡◌, ℕ, ◌+◌, ◌<◌, Bool, true, false, inl, List, [], ◌∷◌, ◌++◌}
use Rattle.std.proofs.Common.{length, get_or, take, drop, nat_lt, refl, sym, ap, ◌∙◌, subst, arith}
use Rattle.std.proofs.Common.{ltb-true}
use Rattle.std.specs.List.{list_all}
use Rattle.std.specs.Str.{chars}
use Rattle.std.proofs.lemmas.Bool.{and_parts, and_from, both_ways}
use Rattle.std.proofs.lemmas.Bool.{lt-ltb}
use Rattle.std.proofs.lemmas.List.{drop-drop}
use Rattle.unicode_ident.proofs.Computing.{unicode_ident}
use Rattle.lexical.specs.Bytes.{ascii_in}
use Rattle.lexical.specs.Finder.{while_front}
use Rattle.lexical.specs.Number.{Number, bars_dot, dot, end, exponent, is_digit_or_underscore}
use Rattle.lexical.specs.Number.{is_exponent_letter}
use Rattle.lexical.specs.Number.{float, float_tail}
use Rattle.lexical.specs.Number.{base_prefixes}
use Rattle.lexical.specs.Quick.{IsAsciiAt, NumberEnd}
use Rattle.lexical.specs.Rule as rules
use Rattle.lexical.specs.Rule.{find, One}
use Rattle.lexical.specs.Text.{begins_any, first_passes}
use Rattle.lexical.specs.declared.bytes.Class.TheVariants as classes
use Rattle.lexical.proofs.NumberFinderLemmas.{finds_digits}
use Rattle.lexical.proofs.PieceFacts.{none_begins}
use Rattle.lexical.proofs.FastPathLemmas.{ascii_split, get_after}
use Rattle.lexical.proofs.FastPathLemmas.{one_ascii, one_none}
use Rattle.lexical.proofs.FastPathLemmas.{run_passes}
use Rattle.lexical.proofs.RuleSteps.{find_either, find_not_before, find_then, text_found, then_lacks}
use Rattle.lexical.proofs.TextLemmas.{all_pass, any_cut}
use Rattle.lexical.proofs.FastNumberLemmas.{byte_here, in_bases, integer_at, plain_end, whole_at}

-- the text after the number is the dot and what follows it
dot_split : (text after : List ℕ) (n : ℕ) → get_or text n 32 ≡ 46 → after ≡ drop (n + 1) text
    → chars (drop n text) ≡ 46 ∷ chars after
dot_split text after n point is =
    let here = byte_here (drop n text) 46 (get_after text n ∙ point) (λ e. omega (arith, e)) in
    let at = one_ascii (λ p r. p ≡ 46 ∷ []) (drop n text) 46 here.0 here.1 (omega arith) refl in
    ascii_split (drop n text) 1 at.ascii ∙ ap₂ (λ f t. f ++ chars t) at.stands (drop-drop 1 n text ∙ sym is)

low_passes : (test : ℕ → Bool) (text : List ℕ) → get_or text 0 32 < 128 → test 32 ≡ false
    → test (get_or text 0 32) ≡ true → first_passes test (chars text) ≡ true
low_passes test [] low space passes = absurd (both_ways _ space passes)
low_passes test (b ∷ text) low space passes =
    ap (first_passes test) (ascii_split (b ∷ text) 1 (and_from _ _ (lt-ltb b 128 low) refl)) ∙ passes

-- no number continues with a dot that does not belong to it
barred_tail : (r rest : List ℕ) → r ≡ 46 ∷ rest → first_passes bars_dot rest ≡ true → find float_tail r ≡ None
barred_tail r rest is bars =
    let point : find (rules.Exactly (codes ".")) r ≡ Some (46 ∷ [], rest) = text_found (codes ".") r rest is in
    let barred : find dot r ≡ None = rw (find_not_before, point, bars) refl in
    let none_of_letter : find (rules.Then exponent end) r ≡ None =
    then_lacks exponent end r (then_lacks (One is_exponent_letter) _ r
    (one_none is_exponent_letter r (ap (first_passes is_exponent_letter) is))) in
    rw (find_either, then_lacks dot _ r barred) none_of_letter

undotted_at : (text after : List ℕ) (n : ℕ) → ascii_in classes.Digit (get_or text 0 32) ≡ true
    → n ≡ length (while_front (ascii_in classes.DigitOrUnderscore) text) → get_or text n 32 ≡ 46
    → after ≡ drop (n + 1) text → ascii_in classes.BarsDot (get_or after 0 32) ≡ true → IsAsciiAt Number text n
unfolding unicode_ident
undotted_at text after n starts size point is bars =
    let same : n + 0 ≡ n = omega arith in
    let low : get_or text n 32 < 128 = omega (arith, point) in
    let bar = and_parts (nat_lt (get_or after 0 32) 128) (bars_dot (get_or after 0 32)) bars in
    let next = ltb-true (get_or after 0 32) 128 bar.0 in
    let p = take n text in
    let r = chars (drop n text) in
    let word = whole_at text n starts size low in
    let split : r ≡ 46 ∷ chars after = dot_split text after n point is in
    let barred : first_passes bars_dot (chars after) ≡ true = low_passes bars_dot after next refl bar.1 in
    let fails : (test : ℕ → Bool) → test 46 ≡ false → first_passes test r ≡ false =
    λ test out. ap (first_passes test) split ∙ out in
    let none : find float (chars text) ≡ None =
    ap (find float) (ascii_split text n word.ascii)
    ∙ (rw (find_then, finds_digits.complete p r word.stands, barred_tail r (chars after) split barred) refl) in
    let all : list_all is_digit_or_underscore p ≡ true =
    all_pass _ _ (λ c is. (and_parts _ _ is).1) p (run_passes classes.DigitOrUnderscore text n size) in
    let plain = any_cut in_bases base_prefixes p [] r refl (fails in_bases refl)
    (ap (begins_any base_prefixes) (append-nil p)
    ∙ none_begins is_digit_or_underscore base_prefixes p refl all) in
    let ended : IsAsciiAt NumberEnd (drop n text) 0 =
    plain_end (drop n text) 46 (sym (get_after text n ∙ point)) refl in
    subst (IsAsciiAt Number text) same
    (integer_at text n 0 none
    (record { within = word.within; ascii = word.ascii; stands = inl (word.stands, plain) }) ended)

pub undotted_read : (text bytes after : List ℕ) (b n d e : ℕ) → bytes ≡ text → b ≡ get_or bytes 0 32
    → true ≡ ascii_in classes.Digit b → n ≡ length (while_front (ascii_in classes.DigitOrUnderscore) bytes)
    → d ≡ get_or bytes n 32 → d ≡ 46 → after ≡ drop (n + 1) bytes → e ≡ get_or after 0 32
    → true ≡ ascii_in classes.BarsDot e → IsAsciiAt Number text n
undotted_read text bytes after b n d e same front starts size here point left next bars =
    subst (λ t. IsAsciiAt Number t n) same
    (undotted_at bytes after n (ap (ascii_in classes.Digit) (sym front) ∙ sym starts) size (sym here ∙ point) left
    (ap (ascii_in classes.BarsDot) (sym next) ∙ sym bars))
