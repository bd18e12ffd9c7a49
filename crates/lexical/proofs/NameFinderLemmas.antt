-- Identifiers as they are written, and which texts may follow a lone quote.
use Rattle.std.proofs.Common.{◌≡◌, ℕ, Bool, true, false, not, List, ◌++◌, Some, None, IfSome, is_some, IsTrue, codes}
use Rattle.std.proofs.Common.{refl, sym, ap, ◌∙◌, append_assoc}
use Rattle.std.proofs.lemmas.Bool.{both_ways, or_parts, cond_both, not_from_false}
use Rattle.unicode_ident.proofs.Computing.{unicode_ident}
use Rattle.lexical.specs.Class.{is_ident_start}
use Rattle.lexical.specs.Text.{begins_with, first_passes}
use Rattle.lexical.specs.Identifier.{Named, any_identifier}
use Rattle.lexical.specs.Mark.{bars_quote, name_after_quote, follows_quote, FollowsQuote, LoneQuote}
use Rattle.lexical.specs.Token.{raw_front}
use Rattle.lexical.specs.Finder.{Answer, Finds, if_passes}
use Rattle.lexical.specs.PieceFinder.{find_lone_quote}
use Rattle.lexical.specs.Rule.{Exactly, Stands, find}
use Rattle.lexical.proofs.FinderLemmas.{IsSplit, finds_where, finds_same}
use Rattle.lexical.proofs.RuleLemmas.{Clear, exact}

-- ---- identifiers

pub clear_written : (raw : Bool) → Clear (any_identifier raw)
clear_written true = (tt, (tt, tt))
clear_written false = (tt, tt)

-- an identifier as it is written is `r#` or nothing, and the name
pub written_named : (raw : Bool) (p r : List ℕ) → Stands (any_identifier raw) p r
    → (name : List ℕ) × (p ≡ raw_front raw ++ name) × Named raw name r
written_named true p r h = (h.back, h.whole ∙ ap (λ x. x ++ h.back) h.first, h.second)
written_named false p r h = (p, refl, h)

pub named_written : (raw : Bool) (name r : List ℕ) → Named raw name r
    → Stands (any_identifier raw) (raw_front raw ++ name) r
named_written true name r h = record { front = codes "r#"; back = name; whole = refl; first = refl; second = h }
named_written false name r h = h

-- a raw identifier begins with `r#`, and a plain one does not
pub named_begins : (raw : Bool) (name r : List ℕ) → Named raw name r
    → begins_with (codes "r#") (raw_front raw ++ (name ++ r)) ≡ raw
named_begins true name r h = refl
named_begins false name r h = (or_parts _ _ h.1).0

-- raw and plain identifiers begin with a character that may begin an identifier
pub named_start : (raw : Bool) (name r : List ℕ) → Named raw name r
    → first_passes is_ident_start (raw_front raw ++ (name ++ r)) ≡ true
unfolding unicode_ident
named_start true name r h = refl
named_start false name r h = ap (first_passes is_ident_start)
    (ap (λ x. x ++ r) (h.0.whole ∙ ap (λ x. x ++ h.0.back) h.0.first.1)) ∙ h.0.first.2

-- ---- the text after a lone quote

pub follows_sound : (text : List ℕ) → follows_quote text ≡ true → FollowsQuote text
follows_sound text =
    let raw = begins_with (codes "r#") text in
    by_cases raw (find (name_after_quote raw) text) ((exact (name_after_quote raw) (clear_written raw)).sound text)
  where
    by_cases : (raw : Bool) (o : Answer) → IfSome o (IsSplit (Stands (name_after_quote raw)) text) → is_some o ≡ true
        → FollowsQuote text
    by_cases raw None is h = absurd (both_ways _ refl h)
    by_cases raw (Some x) is h =
        let named = written_named raw x.0 x.1 is.1.0 in
        let whole = is.0 ∙ (ap (λ q. q ++ x.1) named.1 ∙ append_assoc (raw_front raw) named.0 x.1) in
        record { raw = raw; name = named.0; rest = x.1; whole = whole; named = named.2; unbarred = is.1.1 }

-- if an identifier is found, the character after it decides whether a lone quote may be before it
pub unbarred_found : (raw : Bool) (text p r : List ℕ) → begins_with (codes "r#") text ≡ raw
    → find (any_identifier raw) text ≡ Some (p, r)
    → follows_quote text ≡ not (first_passes (bars_quote raw) r)
unfolding find
unbarred_found raw text p r begins found =
    ap (λ b. is_some (find (name_after_quote b) text)) begins
    ∙ (ap (λ o. is_some (if_passes (λ p r. not (first_passes (bars_quote raw) r)) o)) found
    ∙ cond_both (not (first_passes (bars_quote raw) r)) (Some (p, r)) None
    (λ o. is_some o ≡ not (first_passes (bars_quote raw) r)) sym sym)

pub unbarred_lacks : (raw : Bool) (text : List ℕ) → begins_with (codes "r#") text ≡ raw
    → find (any_identifier raw) text ≡ None
    → follows_quote text ≡ false
unfolding find
unbarred_lacks raw text begins none = ap (λ b. is_some (find (name_after_quote b) text)) begins
    ∙ ap (λ o. is_some (if_passes (λ p r. not (first_passes (bars_quote raw) r)) o)) none

pub follows_at : (raw : Bool) (name rest : List ℕ) → Named raw name rest
    → follows_quote (raw_front raw ++ (name ++ rest)) ≡ not (first_passes (bars_quote raw) rest)
follows_at raw name rest h =
    unbarred_found raw _ (raw_front raw ++ name) rest (named_begins raw name rest h)
    (ap (find (any_identifier raw)) (sym (append_assoc (raw_front raw) name rest))
    ∙ (exact (any_identifier raw) (clear_written raw)).complete (raw_front raw ++ name) rest
    (named_written raw name rest h))

pub follows_complete : (text : List ℕ) → FollowsQuote text → follows_quote text ≡ true
follows_complete text h = ap follows_quote h.whole
    ∙ (follows_at h.raw h.name h.rest h.named ∙ not_from_false _ h.unbarred)

pub finds_lone_quote : Finds find_lone_quote LoneQuote
finds_lone_quote = finds_same find_lone_quote (λ p r. Stands (Exactly (codes "'")) p r × IsTrue (follows_quote r))
    LoneQuote
    (finds_where (λ p r. follows_quote r) (find (Exactly (codes "'"))) (Stands (Exactly (codes "'")))
    (exact (Exactly (codes "'")) tt))
    (λ p r is. (is.0, follows_sound r is.1))
    (λ p r is. (is.0, follows_complete r is.1))
