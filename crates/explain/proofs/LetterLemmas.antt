-- Where a letter is, but neither an identifier nor a literal begins.
use Rattle.std.proofs.Common.{◌≡◌, ℕ, Bool, true, false, not, ◌&&◌, ◌==◌, cond, List, [], ◌∷◌, ◌++◌, codes}
use Rattle.std.proofs.Common.{Some, None, refl, sym, ap, ◌∙◌, subst, arith, eqb-true}
use Rattle.std.specs.Str.{chars}
use Rattle.std.proofs.lemmas.Bool.{both_ways, cond-false, cond-true, false_from_ne_true, or_from}
use Rattle.std.proofs.lemmas.Bool.{true_from_ne_false}
use Rattle.lexical.specs.Class.{is_ident_continue, is_ident_start}
use Rattle.lexical.specs.Finder.{Answer, and_find, prepend, find_run, if_passes, while_front, while_rest}
use Rattle.lexical.specs.Identifier.{identifier, is_allowed, is_reserved, literal_prefixes, name, raw_name}
use Rattle.lexical.specs.Identifier.{any_identifier}
use Rattle.lexical.specs.PieceFinder.{found_identifier, name_kind, and_kind}
use Rattle.lexical.specs.RawString.{raw_front}
use Rattle.lexical.specs.Rule.{Exactly, One, Run, Then, find}
use Rattle.lexical.specs.RuleMatch.{Passes}
use Rattle.lexical.specs.Text.{begins_any, begins_with, first_passes}
use Rattle.lexical.specs.declared.cursor.TextCursor.{TextCursor}
use Rattle.lexical.specs.declared.quoted.StringKind.{StringKind}
use Rattle.lexical.specs.declared.quoted.StringKind.TheVariants as kinds
use Rattle.lexical.proofs.ClassLemmas.{ident_start_ascii}
use Rattle.lexical.proofs.RuleSteps.{lacks_text, past_text}
use Rattle.explain.specs.Shapes.{is_hash, no_double_quote}
use Rattle.explain.proofs.StuckLemmas.{identifier_stands, untagged_by}

-- ---- the prefixes of literals

longer : (p q text : List ℕ) → begins_with p text ≡ false → begins_with (p ++ q) text ≡ false
longer [] q text e = absurd (both_ways _ e refl)
longer (c ∷ p) q [] e = refl
longer (c ∷ p) q (d ∷ text) e = by_first (c == d) e (longer p q text)
  where
    by_first : (b : Bool) → (b && begins_with p text) ≡ false
        → (begins_with p text ≡ false → begins_with (p ++ q) text ≡ false) → (b && begins_with (p ++ q) text) ≡ false
    by_first true e more = more e
    by_first false e more = refl

pub no_prefix : (text : List ℕ) → find (Exactly (codes "b\"")) text ≡ None → find (Exactly (codes "c\"")) text ≡ None
    → find (Exactly (codes "b'")) text ≡ None → find (Exactly (codes "r")) text ≡ None
    → find (Exactly (codes "br")) text ≡ None → find (Exactly (codes "cr")) text ≡ None
    → begins_any literal_prefixes text ≡ false
no_prefix text byte c single plain bytes cs =
    let r = lacks_text (codes "r") text plain in
    let br = lacks_text (codes "br") text bytes in
    let cr = lacks_text (codes "cr") text cs in
    or_from _ _ (longer (codes "r") (codes "\"") text r)
    (or_from _ _ (longer (codes "r") (codes "#\"") text r)
    (or_from _ _ (longer (codes "r") (codes "##") text r)
    (or_from _ _ (lacks_text (codes "b\"") text byte)
    (or_from _ _ (lacks_text (codes "b'") text single)
    (or_from _ _ (longer (codes "br") (codes "\"") text br)
    (or_from _ _ (longer (codes "br") (codes "#") text br)
    (or_from _ _ (lacks_text (codes "c\"") text c)
    (or_from _ _ (longer (codes "cr") (codes "\"") text cr)
    (or_from _ _ (longer (codes "cr") (codes "#") text cr) refl)))))))))

pub no_letter : (text : List ℕ) → find (Exactly (codes "b\"")) text ≡ None → find (Exactly (codes "c\"")) text ≡ None
    → find (Exactly (codes "b'")) text ≡ None → find (Exactly (codes "r#")) text ≡ None
    → find (Exactly (codes "r")) text ≡ None → find (Exactly (codes "br")) text ≡ None
    → find (Exactly (codes "cr")) text ≡ None → first_passes is_ident_start text ≡ true
    → found_identifier text ≡ None → ⊥
no_letter text byte c single raw plain bytes cs starts none =
    identifier_stands text (no_prefix text byte c single plain bytes cs) (lacks_text (codes "r#") text raw) starts none

-- ---- raw names

starts_with : (text : List ℕ) → first_passes is_ident_start text ≡ true
    → begins_any literal_prefixes (codes "r#" ++ text) ≡ false
starts_with [] starts = refl
starts_with (c ∷ text) starts =
    let quote : (34 == c) ≡ false = apart 34 (ident_start_ascii 34 (omega arith)) in
    let hash : (35 == c) ≡ false = apart 35 (ident_start_ascii 35 (omega arith)) in
    grind (arith, quote, hash)
  where
    apart : (d : ℕ) → is_ident_start d ≡ false → (d == c) ≡ false
    apart d none = false_from_ne_true _ (λ same. both_ways _ (ap is_ident_start (sym (eqb-true d c same)) ∙ none)
        starts)

named_starts : (text : List ℕ) (p r : List ℕ) → find name text ≡ Some (p, r) → first_passes is_ident_start text ≡ true
unfolding find
named_starts [] p r e = let clash : ◌≡◌ {A = Answer} None (Some (p, r)) = e in absurd (cc)
named_starts (c ∷ text) p r e = true_from_ne_false _ (λ no.
    let clash : ◌≡◌ {A = Answer} None (Some (p, r)) =
    sym (ap (and_find (find_run is_ident_continue)) (cond-false _ _ _ no)) ∙ e in
    absurd (cc))

pub raw_name_reserved : (at inner end : TextCursor) → Passes (Exactly (codes "r#")) at inner
    → (named : Passes name inner end) → found_identifier (chars at.rest.now) ≡ None → is_reserved named.front ≡ true
unfolding find
raw_name_reserved at inner end front named none = true_from_ne_false _ (λ plain.
    let raw : find raw_name (chars inner.rest.now) ≡ Some (named.front, chars end.rest.now) =
    ap (if_passes (λ p r. is_allowed true p)) named.found ∙ cond-true _ _ _ (ap not plain) in
    let split = (past_text (codes "r#") at inner front).0 in
    let found : find (any_identifier true) (chars at.rest.now) ≡ Some (codes "r#" ++ named.front, chars end.rest.now) =
    ap (find (any_identifier true)) split ∙ ap (λ o. prepend (codes "r#") o) raw in
    let apart = subst (λ t. begins_any literal_prefixes t ≡ false) (sym split)
    (starts_with (chars inner.rest.now)
    (named_starts (chars inner.rest.now) named.front (chars end.rest.now) named.found)) in
    let lacks = untagged_by (name_kind true) (find (identifier true) (chars at.rest.now))
    (sym (ap (λ b. and_kind (name_kind b) (find (identifier b) (chars at.rest.now)))
    (ap (begins_with (codes "r#")) split)) ∙ none) in
    let clash : ◌≡◌ {A = Answer} (Some (codes "r#" ++ named.front, chars end.rest.now)) None =
    sym found ∙ (sym (cond-false _ _ _ apart) ∙ lacks) in
    absurd (cc))

-- ---- hash signs

one_run : (c : ℕ) (text : List ℕ) → is_hash c ≡ true
    → find (Then (One is_hash) (Run is_hash)) (c ∷ text) ≡ find (Run is_hash) (c ∷ text)
unfolding find
one_run c text e =
    ap (and_find (find_run is_hash)) (cond-true _ _ _ e)
    ∙ sym (ap (λ b. Some (cond b (c ∷ while_front is_hash text) [], cond b (while_rest is_hash text) (c ∷ text))) e)

-- neither a quote nor a hash sign follows the letters of a raw string
plain_after : (kind : StringKind) (rest : List ℕ) → begins_with (codes "\"") rest ≡ false
    → first_passes is_hash rest ≡ false
    → (begins_any literal_prefixes (raw_front kind ++ rest) ≡ false)
    × (begins_with (codes "r#") (raw_front kind ++ rest) ≡ false)
plain_after kinds.Plain [] quote hash = (refl, refl)
plain_after kinds.Plain (c ∷ rest) quote hash = (grind (arith, quote, hash), grind (arith, hash))
plain_after kinds.Byte [] quote hash = (refl, refl)
plain_after kinds.Byte (c ∷ rest) quote hash = (grind (arith, quote, hash), refl)
plain_after kinds.C [] quote hash = (refl, refl)
plain_after kinds.C (c ∷ rest) quote hash = (grind (arith, quote, hash), refl)

front_starts : (kind : StringKind) (rest : List ℕ) → first_passes is_ident_start (raw_front kind ++ rest) ≡ true
front_starts kinds.Plain rest = ident_start_ascii 114 (omega arith)
front_starts kinds.Byte rest = ident_start_ascii 98 (omega arith)
front_starts kinds.C rest = ident_start_ascii 99 (omega arith)

run_none : (text : List ℕ) (p r : List ℕ) → first_passes is_hash text ≡ false → find (Run is_hash) text ≡ Some (p, r)
    → text ≡ r
unfolding find
run_none [] p r none e =
    let pair : ◌≡◌ {A = Answer} (Some ([], [])) (Some (p, r)) = e in
    let both : ◌≡◌ {A = List ℕ × List ℕ} ([], []) (p, r) = cc in
    ap (λ x. x.1) both
run_none (c ∷ text) p r none e =
    let pair : ◌≡◌ {A = Answer} (Some ([], c ∷ text)) (Some (p, r)) =
    sym (ap (λ b. Some (cond b (c ∷ while_front is_hash text) [], cond b (while_rest is_hash text) (c ∷ text))) none)
    ∙ e in
    let both : ◌≡◌ {A = List ℕ × List ℕ} ([], c ∷ text) (p, r) = cc in
    ap (λ x. x.1) both

pub hashes_here : (kind : StringKind) (at inside end : TextCursor) → Passes (Exactly (raw_front kind)) at inside
    → Passes (Run is_hash) inside end → find (Exactly (codes "\"")) (chars end.rest.now) ≡ None
    → found_identifier (chars at.rest.now) ≡ None → Passes (Then (One is_hash) (Run is_hash)) inside end
hashes_here kind at inside end letters run quote none =
    let some : first_passes is_hash (chars inside.rest.now) ≡ true = true_from_ne_false _ (λ no.
    let same = run_none (chars inside.rest.now) run.front (chars end.rest.now) no run.found in
    let plain = plain_after kind (chars inside.rest.now)
    (subst (λ t. begins_with (codes "\"") t ≡ false) (sym same) (lacks_text (codes "\"") (chars end.rest.now) quote))
    no in
    let split = (past_text (raw_front kind) at inside letters).0 in
    identifier_stands (raw_front kind ++ chars inside.rest.now) plain.0 plain.1
    (front_starts kind (chars inside.rest.now)) (subst (λ t. found_identifier t ≡ None) split none)) in
    record {
      front = run.front;
      found = by_text (chars inside.rest.now) some ∙ run.found;
      count = run.count;
    }
  where
    by_text : (text : List ℕ) → first_passes is_hash text ≡ true
        → find (Then (One is_hash) (Run is_hash)) text ≡ find (Run is_hash) text
    by_text [] some = absurd (both_ways _ refl some)
    by_text (c ∷ text) some = one_run c text some

pub other_follows : (text : List ℕ) → find no_double_quote text ≡ None → find (Exactly (codes "\"")) text ≡ None → ⊥
unfolding find
other_follows [] none quote = let clash : ◌≡◌ {A = Answer} (Some ([], [])) None = none in absurd (cc)
other_follows (c ∷ text) none quote =
    let apart = lacks_text (codes "\"") (c ∷ text) quote in
    let clash : ◌≡◌ {A = Answer} (Some (c ∷ [], text)) None =
    sym (cond-false _ _ _ (or_from _ _ apart refl)) ∙ none in
    absurd (cc)
