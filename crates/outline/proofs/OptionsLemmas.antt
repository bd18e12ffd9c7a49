-- What the arguments ask for, one argument after the other.
use Rattle.std.proofs.Common.{◌≡◌, ◌∙◌, ℕ, ◌+◌, ◌<◌, ◌≤◌, List, ◌∷◌, Option, Some, None, ap, drop, get_or}
use Rattle.std.proofs.Common.{length, map, refl, string_bytes, String, subst, sym}
use Rattle.std.proofs.lemmas.List.{at_drop_all, at_drop_more}
use Rattle.std.specs.declared.alloc.Global.{Global}
use Rattle.outline.specs.Options.{Wishes, asks, or_input, unless_unknown, with_word, word_of}
use Rattle.outline.specs.declared.options.ArgumentKind.{ArgumentKind}
use Rattle.outline.specs.declared.options.ArgumentKind.TheVariants as kinds

-- the next argument is the first of those that are left
asks_next : (w : Wishes) (words : List (String Global)) (k : ℕ) (word : String Global) (asked : Option Wishes)
    → k < length words → word ≡ get_or words k word → asks w (map string_bytes (drop k words)) ≡ asked
    → asks w (string_bytes word ∷ map string_bytes (drop (k + 1) words)) ≡ asked
asks_next w words k word asked within is now =
    sym (at_drop_more (λ l. asks w (map string_bytes l)) words k word within
    ∙ ap (λ x. asks w (string_bytes x ∷ map string_bytes (drop (k + 1) words))) (sym is))
    ∙ now

known_next : (kind : ArgumentKind) (next : Option Wishes) → (kind ≡ kinds.Unknown → ⊥)
    → unless_unknown kind next ≡ next
known_next kinds.Json next known = refl
known_next kinds.Ctags next known = refl
known_next kinds.Unknown next known = absurd (known refl)
known_next kinds.Path next known = refl

-- an argument that is known is taken into account
pub takes_word : (w v : Wishes) (words : List (String Global)) (k : ℕ) (word : String Global) (kind : ArgumentKind)
    (asked : Option Wishes) → k < length words → word ≡ get_or words k word → kind ≡ word_of (string_bytes word)
    → (kind ≡ kinds.Unknown → ⊥) → v ≡ with_word kind (string_bytes word) w
    → asks w (map string_bytes (drop k words)) ≡ asked → asks v (map string_bytes (drop (k + 1) words)) ≡ asked
takes_word w v words k word kind asked within is means known took now =
    let rest = map string_bytes (drop (k + 1) words) in
    let here : unless_unknown kind (asks (with_word kind (string_bytes word) w) rest) ≡ asked =
    subst (λ m. unless_unknown m (asks (with_word m (string_bytes word) w) rest) ≡ asked) (sym means)
    (asks_next w words k word asked within is now) in
    sym (known_next kind (asks v rest) known)
    ∙ subst (λ x. unless_unknown kind (asks x rest) ≡ asked) (sym took) here

-- nothing is asked with an argument that is not known
pub stops_at_word : (w : Wishes) (words : List (String Global)) (k : ℕ) (word : String Global) (kind : ArgumentKind)
    (asked : Option Wishes) → k < length words → word ≡ get_or words k word → kind ≡ word_of (string_bytes word)
    → kind ≡ kinds.Unknown → asks w (map string_bytes (drop k words)) ≡ asked → asked ≡ None
stops_at_word w words k word kind asked within is means unknown now =
    let rest = map string_bytes (drop (k + 1) words) in
    sym (subst (λ m. unless_unknown m (asks (with_word m (string_bytes word) w) rest) ≡ asked) (sym means ∙ unknown)
    (asks_next w words k word asked within is now))

-- no argument is left
pub ends_words : (w : Wishes) (words : List (String Global)) (k : ℕ) (asked : Option Wishes) → length words ≤ k
    → asks w (map string_bytes (drop k words)) ≡ asked → asked ≡ Some (or_input w)
ends_words w words k asked past now = sym now ∙ at_drop_all (λ l. asks w (map string_bytes l)) words k past
