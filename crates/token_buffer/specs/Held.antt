-- Entries that are the tokens of trees.
use Rattle.std.specs.Prelude.{◌≡◌, ℕ, ◌⊎◌, List, [], ◌∷◌, length}
use Rattle.std.proofs.Common.{inl, inr, refl}
use Rattle.std.specs.Coded.{Coded, Coded-set, code_by, coded_ℕ, coded_list, coded×, coded⊎}
use Rattle.std.specs.Coded.{×_prop, →_prop, Unit-prop, le_prop}
use Rattle.std.specs.Str.{IsCharBoundary}
use Rattle.lexical.specs.Token.{Token}
use Rattle.pm_token.specs.declared.delimiters.Delimiter.{Delimiter}
use Rattle.pm_token.specs.contracts.delimiters.Delimiter as delimiter
use Rattle.pm_stream.specs.Codec.{token_code, token_inj}
use Rattle.pm_stream.specs.Events.{Event, One, Opens, Closes}
use Rattle.pm_stream.specs.Forest.{Forest, nil, leaf, group, flattening}
use Rattle.token_buffer.specs.Entries.{events_of, counts_of, IsCut, IsWithin, AreWithin}
use Rattle.token_buffer.specs.declared.entry.Entry.{Entry}
use Rattle.token_buffer.specs.declared.entry.Entry.TheVariants as entries

-- for each event of the trees, how many events are inside its group; and then other numbers
abbrev pub counts_onto : Forest → List ℕ → List ℕ
counts_onto nil more = more
counts_onto (leaf token lo hi rest) more = 0 ∷ counts_onto rest more
counts_onto (group d lo hi inside rest) more =
    length (flattening inside) ∷ counts_onto inside (0 ∷ counts_onto rest more)

abbrev pub counts : Forest → List ℕ
counts forest = counts_onto forest []

-- whether the entries are the trees' tokens, have the right counts, and their texts can be cut out of the source
pub record Holds (text : List ℕ) (entries : List Entry) (trees : Forest) : Type 0 where
  pub events : events_of text entries ≡ flattening trees
  pub counted : counts_of entries ≡ counts trees
  pub within : AreWithin text entries

-- ---- all proofs of `Holds` are equal

abbrev Packed : Type 0
Packed = (Token × (ℕ × ℕ)) ⊎ ((Delimiter × ℕ) ⊎ (Delimiter × ℕ))

abbrev pack : Event → Packed
pack (One token lo hi) = inl (token, (lo, hi))
pack (Opens d lo) = inr (inl (d, lo))
pack (Closes d hi) = inr (inr (d, hi))

abbrev unpack : Packed → Event
unpack (inl one) = One one.0 one.1.0 one.1.1
unpack (inr (inl opens)) = Opens opens.0 opens.1
unpack (inr (inr closes)) = Closes closes.0 closes.1

unpack_pack : (event : Event) → unpack (pack event) ≡ event
unpack_pack (One token lo hi) = refl
unpack_pack (Opens d lo) = refl
unpack_pack (Closes d hi) = refl

abbrev coded_token : Coded Token
coded_token = record { code = token_code; inj = token_inj }

abbrev coded_delimiter : Coded Delimiter
coded_delimiter = delimiter.the_row.coded

abbrev coded_event : Coded Event
coded_event = code_by Packed
    (coded⊎ (coded× coded_token (coded× coded_ℕ coded_ℕ))
    (coded⊎ (coded× coded_delimiter coded_ℕ) (coded× coded_delimiter coded_ℕ)))
    pack unpack unpack_pack

events-prop : (es fs : List Event) → IsProp (es ≡ fs)
events-prop es fs = Coded-set (coded_list coded_event) es fs

counts-prop : (ns ms : List ℕ) → IsProp (ns ≡ ms)
counts-prop ns ms = Coded-set (coded_list coded_ℕ) ns ms

boundary-prop : (text : List ℕ) (n : ℕ) → IsProp (IsCharBoundary text n)
boundary-prop text n = ×_prop le_prop (→_prop (→_prop le_prop))

cut-prop : (lo hi : ℕ) (text : List ℕ) → IsProp (IsCut lo hi text)
cut-prop lo hi text = λ x y. λ i. (
  le_prop x.0 y.0 i,
  boundary-prop text lo x.1 y.1 i,
  boundary-prop text hi x.2 y.2 i,
)

within-prop : (text : List ℕ) (entry : Entry) → IsProp (IsWithin text entry)
within-prop text (entries.Name raw lo hi at) = ×_prop (cut-prop lo hi text) le_prop
within-prop text (entries.Mark joint mark at end) = Unit-prop
within-prop text (entries.Literal lo hi at) = ×_prop (cut-prop lo hi text) le_prop
within-prop text (entries.Open delimiter at count) = Unit-prop
within-prop text (entries.Close delimiter end) = Unit-prop
within-prop text (entries.DocName at end) = Unit-prop
within-prop text (entries.DocText closing lo hi at) = ×_prop (cut-prop lo hi text) le_prop

all_within-prop : (text : List ℕ) (es : List Entry) → IsProp (AreWithin text es)
all_within-prop text [] = Unit-prop
all_within-prop text (entry ∷ es) = ×_prop (within-prop text entry) (all_within-prop text es)

pub Holds-prop : (text : List ℕ) (es : List Entry) (trees : Forest) → IsProp (Holds text es trees)
Holds-prop text es trees = λ x y. λ i. record {
  events = events-prop (events_of text es) (flattening trees) x.events y.events i;
  counted = counts-prop (counts_of es) (counts trees) x.counted y.counted i;
  within = all_within-prop text es x.within y.within i;
}
