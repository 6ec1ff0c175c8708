-- What a log of cooperating seats promises: hits give what was put, and what was stored is found.
use Rattle.std.specs.Prelude.{◌≡◌, ◌⊎◌, ℕ, Bool, true, false, List, ◌∷◌, ◌++◌}
use Rattle.cache_types.specs.declared.answer.Answer.{Answer}
use Rattle.cache_types.specs.declared.answer.Answer.TheVariants as answers
use Rattle.cache_types.specs.declared.meta.Meta.{Meta}
use Rattle.cache_types.specs.declared.request.Request.TheVariants.{Get, Put}
use Rattle.cache_types.specs.declared.request.RoPlan.{RoPlan}
use Rattle.cache_types.specs.declared.seat.Who.{Who}
use Rattle.file_log.specs.declared.item.LogItem.{LogItem}
use Rattle.file_log.specs.declared.item.LogItem.TheVariants as items
use Rattle.file_log.specs.Log.{History, Quiet, WasPut}
use Rattle.seat_rules.specs.Address.{Address}
use Rattle.seat_rules.specs.Operations.{GoesOn, IsInside, EvictIsOpen}
use Rattle.seat_rules.specs.Places.{AtEach}

-- ---- licensed

-- a read-only database that the lookup asked gives the blob: no lookup asks one yet
abbrev pub ReadOnlyGives : History → Address → RoPlan → List ℕ → Type 0
ReadOnlyGives h at ro blob = ⊥

-- a hit of a lookup gives a blob that was put there, or that an asked read-only database has
abbrev pub IsLicensed : History → LogItem → Type 0
IsLicensed h (items.End who (answers.Hit blob)) = (at : Address) (ro : RoPlan) → IsInside h.log who (Get at.store at.driver at.key ro)
    → WasPut h.log at.store at.driver at.key blob ⊎ ReadOnlyGives h at ro blob
IsLicensed h item = Unit {0}

-- each hit is so
abbrev pub Licensed : List LogItem → Type 0
Licensed log = AtEach IsLicensed log

-- ---- found

-- the answer of a put that leaves its address held
abbrev pub is_well : Answer → Bool
is_well answers.Stored = true
is_well answers.Kept = true
is_well answer = false

-- the answer of a lookup that found its blob, or could not look
abbrev pub is_finding : Answer → Bool
is_finding (answers.Hit blob) = true
is_finding answers.Busy = true
is_finding answers.NoMemory = true
is_finding answer = false

-- no Evict of the address is told in these items
abbrev pub NoEvictOf : Address → List LogItem → Type 0
NoEvictOf at log = (before later : List LogItem) (who : Who) → log ≡ before ++ items.Evict who at.store at.driver at.key ∷ later → ⊥

-- The seat looks up an address that is promised to it: before its lookup began a put of the address had ended well, and of this address no
-- Evict was open where that put began, and none was told since.
pub record IsPromised (log : List LogItem) (who : Who) (at : Address) : Type 0 where
  pub by : Who
  pub meta : Meta
  pub blob : List ℕ
  pub limit : ℕ
  pub answer : Answer
  pub ro : RoPlan
  -- before the put, within it, between it and the lookup, and since that began
  pub first : List LogItem
  pub within : List LogItem
  pub between : List LogItem
  pub since : List LogItem
  pub log_is : log ≡ first ++ items.Begin by (Put at.store at.driver at.key meta blob limit) ∷ (within ++ items.End by answer ∷ (between ++ items.Begin who (Get at.store at.driver at.key ro) ∷ since))
  pub put_goes_on : GoesOn by within
  pub is_well : is_well answer ≡ true
  pub goes_on : GoesOn who since
  pub none_open : (other : Who) → EvictIsOpen first other at → ⊥
  pub none_told : NoEvictOf at (within ++ items.End by answer ∷ (between ++ items.Begin who (Get at.store at.driver at.key ro) ∷ since))

-- while no process was stopped and no call failed, a lookup finds what is promised to it
abbrev pub IsFound : History → LogItem → Type 0
IsFound h (items.End who answer) = Quiet h.log → (at : Address) → IsPromised h.log who at → is_finding answer ≡ true
IsFound h item = Unit {0}

-- each lookup does
abbrev pub Found : List LogItem → Type 0
Found log = AtEach IsFound log
