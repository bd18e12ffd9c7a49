-- How calls return the handle of a session.
use Rattle.std.specs.Prelude.{ℕ, ◌≡◌, ◌↔◌, true, false}
use Rattle.pm_c.specs.declared.codes.TheConstants.{NOT_LIVE}
use Rattle.pm_c.specs.declared.handle.PmSession.{PmSession}

-- a live handle is returned and still live; otherwise the code is `NOT_LIVE` and nothing is written
pub record HandsBack (session old new : PmSession) (code : ℕ) : Type 0 where
  pub live : session.live ≡ true → new.live ≡ true
  pub not_live : (code ≡ NOT_LIVE) ↔ (session.live ≡ false)
  pub unwritten : session.live ≡ false → new ≡ old
