-- Classes of bytes in the table.
use Rattle.std.proofs.Common.{◌≡◌, ℕ, ◌<◌, true, sym, ap, ◌∙◌}
use Rattle.std.proofs.lemmas.Bool.{agree_below_at, agree_below}
use Rattle.literal_escaper.specs.ContentClass.{has_class, is_in}
use Rattle.literal_escaper.specs.declared.classes.ContentClass.{ContentClass}

-- `bits` are the class's at each ASCII byte if they agree with it on all bytes below 128, which computes
pub same_class : {given class : ContentClass} (bits : ℕ) → given ≡ class
    → agree_below (has_class bits) (is_in class) 128 ≡ true
    → (byte : ℕ) → byte < 128 → has_class bits byte ≡ is_in given byte
same_class {given} {class} bits is h byte low =
    agree_below_at (has_class bits) (is_in class) 128 byte h low ∙ ap (λ x. is_in x byte) (sym is)
