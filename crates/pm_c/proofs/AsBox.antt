-- A live handle and its parts own what a box of the same types owns.
use mir.Syntax.{impl, tnil, dnil}
use mathlib.Core.Path.{◌≡◌, sym, subst}
use mathlib.Core.Bool.{Bool, true}
use mathlib.Core.List.{List, []}
use seplogic.Ra.Ura.{Ura}
use mir.Val.{Val}
use base.Logic.{ent, id⊢}
use types.Logic.{Logic, sem}
use denote.Signature.{Slot, plain}
use Rattle.std_alloc.proofs.BoxSteps.Form.{Bx, B, D}
use Rattle.std_heap.specs.contracts.Global as Heap
use Rattle.std_heap.specs.contracts.GlobalAllocator.TheImpl.{ghosts, dict}
use Rattle.std_heap.proofs.Global.TheLaws as heap
use Rattle.pm_c.specs.Held.{held_if}
use Rattle.pm_c.specs.contracts.session.Session as Session
use Rattle.pm_c.proofs.session.Session.TheLaws as session
use Rattle.pm_c.specs.contracts.handle.Parts as Parts
use Rattle.pm_c.specs.contracts.handle.SessionBox as Handle

abbrev pub E : Bx
E = record {
  row = Session.the_row;
  laws = session.the_row_laws;
  al =
      record { row = Heap.the_row; laws = heap.the_row_laws; g = ghosts; d = dict; drops = impl [] tnil dnil };
}

abbrev pub FromParts : Slot 0
FromParts = plain (λ _. Parts.the_row Session.the_row Heap.the_row ghosts)

abbrev pub FromHandle : Slot 0
FromHandle = plain (λ _. Handle.the_row)

abbrev pub as_box : Handle.the_row.Denot → D E
as_box h = record { ptr = h.at; alloc = h.alloc; value = h.value }

module _ {M : Type 1} {𝓤 : Ura M} (𝓛 : Logic 𝓤) where
  abbrev with_live : Handle.the_row.Denot → Bool → Handle.the_row.Denot
  with_live h l = record { at = h.at; alloc = h.alloc; live = l; value = h.value }

  pub live_box : (h : Handle.the_row.Denot) (vs : List Val) → h.live ≡ true
      → ent 𝓤 (sem 𝓛 (Handle.the_row.own_val h vs)) (sem 𝓛 ((B E).own_val (as_box h) vs))
  unfolding held_if
  live_box h vs e = subst (λ (l : Bool). ent 𝓤 (sem 𝓛 (Handle.the_row.own_val (with_live h l) vs))
      (sem 𝓛 ((B E).own_val (as_box h) vs))) (sym e) (id⊢ 𝓤 _)
