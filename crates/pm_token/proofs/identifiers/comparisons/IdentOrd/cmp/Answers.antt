use Rattle.std.proofs.Common.{◌≡◌, true, false, refl, sym, ap, ◌∙◌}
use Rattle.std.specs.Cmp.{booleans_Decides}
use Rattle.pm_token.proofs.CompareLemmas.{name_of, cmp_text, cmp_alike, cmp_raw_plain, cmp_plain_raw, other_plain}
use Rattle.pm_token.proofs.CompareLemmas.{other_raw}
use Rattle.pm_token.proofs.identifiers.comparisons.IdentOrd.cmp.Goals as goal

pub returns-then-raw-is_raw-clause-value : goal.returns-then-raw-is_raw-clause-value
returns-then-raw-is_raw-clause-value c =
    let own = name_of _ c.self.view_is c.as_str-name.ensures c.as_str-name.utf8 c.self.invariant in
    let other = name_of _ c.other.view_is c.as_str-other_name.ensures c.as_str-other_name.utf8 c.other.invariant in
    let alike : c.args.self.now.raw ≡ c.args.other.now.raw =
    sym (ap (λ x. x.raw) c.self.view_is)
    ∙ (sym c.is_raw-raw.ensures
    ∙ ((booleans_Decides _ _).0 c.if-raw-is_raw.true ∙ (c.is_raw.ensures ∙ ap (λ x. x.raw) c.other.view_is))) in
    c.cmp.ensures ∙ cmp_alike c.args.self.now c.args.other.now _ _ c.args.other.now.raw own other alike refl

pub returns-then-raw-is_raw-clause-equal : goal.returns-then-raw-is_raw-clause-equal
returns-then-raw-is_raw-clause-equal c =
    cmp_text c.args.self.now c.args.other.now c.cmp.result (returns-then-raw-is_raw-clause-value c)

pub returns-then-raw-clause-value : goal.returns-then-raw-clause-value
returns-then-raw-clause-value c =
    let own = name_of _ c.self.view_is c.as_str-name.ensures c.as_str-name.utf8 c.self.invariant in
    let other = name_of _ c.other.view_is c.as_str-other_name.ensures c.as_str-other_name.utf8 c.other.invariant in
    let raw : c.args.self.now.raw ≡ true = sym (ap (λ x. x.raw) c.self.view_is)
    ∙ (sym c.is_raw-raw.ensures ∙ c.if-raw.true) in
    let plain : c.args.other.now.raw ≡ false = sym (ap (λ x. x.raw) c.other.view_is)
    ∙ (sym c.is_raw.ensures ∙ other_plain _ _ c.if-raw-is_raw.false c.if-raw.true) in
    c.cmp-then-raw.ensures ∙ cmp_raw_plain c.args.self.now c.args.other.now _ _ own other raw plain

pub returns-then-raw-clause-equal : goal.returns-then-raw-clause-equal
returns-then-raw-clause-equal c =
    cmp_text c.args.self.now c.args.other.now c.cmp-then-raw.result (returns-then-raw-clause-value c)

pub returns-else-raw-clause-value : goal.returns-else-raw-clause-value
returns-else-raw-clause-value c =
    let own = name_of _ c.self.view_is c.as_str-name.ensures c.as_str-name.utf8 c.self.invariant in
    let other = name_of _ c.other.view_is c.as_str-other_name.ensures c.as_str-other_name.utf8 c.other.invariant in
    let plain : c.args.self.now.raw ≡ false = sym (ap (λ x. x.raw) c.self.view_is)
    ∙ (sym c.is_raw-raw.ensures ∙ c.if-raw.false) in
    let raw : c.args.other.now.raw ≡ true = sym (ap (λ x. x.raw) c.other.view_is)
    ∙ (sym c.is_raw.ensures ∙ other_raw _ _ c.if-raw-is_raw.false c.if-raw.false) in
    c.cmp-else-raw.ensures ∙ cmp_plain_raw c.args.self.now c.args.other.now _ _ own other plain raw

pub returns-else-raw-clause-equal : goal.returns-else-raw-clause-equal
returns-else-raw-clause-equal c =
    cmp_text c.args.self.now c.args.other.now c.cmp-else-raw.result (returns-else-raw-clause-value c)
