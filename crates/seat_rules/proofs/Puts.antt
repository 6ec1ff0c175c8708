-- What was put was put by a driver that there can be, and stays put.
use Rattle.std.proofs.Common.{inl, inr, ℕ, List, [], ◌∷◌, ◌++◌, subst, arith}
use Rattle.std.specs.List.{Contains}
use Rattle.std.proofs.lemmas.List.Elements.{Contains-append_left, Contains-append_cases, Contains-push_cases}
use Rattle.cache_types.specs.Driver.{DriverKeys}
use Rattle.cache_types.specs.declared.key.Key.{Key}
use Rattle.cache_types.specs.declared.store.Store.{Store}
use Rattle.file_log.specs.Along.{All}
use Rattle.file_log.specs.Fits.{RequestFits}
use Rattle.file_log.specs.Legal.{IsLegal, Legal}
use Rattle.file_log.specs.Log.{WasPut}
use Rattle.file_log.specs.State.{State, after}
use Rattle.file_log.specs.declared.item.LogItem.{LogItem}
use Rattle.file_log.specs.declared.item.LogItem.TheVariants as items
use Rattle.seat_rules.specs.Address.{Address}

-- ---- drivers that there can be

-- what an item that can come holds of its request
abbrev pub BeginFits : LogItem → Type 0
BeginFits (items.Begin who request) = RequestFits request
BeginFits item = Unit {0}

pub fits_of : (s : State) (item : LogItem) → IsLegal s item → BeginFits item
fits_of s (items.Begin who request) legal = legal.1
fits_of s item legal = tt

pub fits_there : (s : State) (xs ys : List LogItem) (item : LogItem) → All after IsLegal s (xs ++ item ∷ ys) → BeginFits item
fits_there s [] ys item legal = fits_of s item legal.0
fits_there s (x ∷ xs) ys item legal = fits_there (after s x) xs ys item legal.1

pub fits_in : (s : State) (log : List LogItem) (item : LogItem) → Legal s log → Contains log item → BeginFits item
fits_in s log item legal c = by_cases log s legal c
  where
    by_cases : (log : List LogItem) (s : State) → All after IsLegal s log → Contains log item → BeginFits item
    by_cases [] s legal c = absurd (omega (arith, c.1))
    by_cases (x ∷ xs) s legal c = elim (Contains-append_cases (x ∷ []) xs item c) [
      | inl here ↦ elim (Contains-push_cases [] x item here) [ inl none ↦ absurd (omega (arith, none.1)) | inr same ↦ subst BeginFits same (fits_of s x legal.0) ]
      | inr later ↦ by_cases xs (after s x) legal.1 later
    ]

-- ---- what was put

abbrev pub PutIn : List LogItem → Address → List ℕ → Type 0
PutIn log at blob = WasPut log at.store at.driver at.key blob

pub put_goes_on : (xs ys : List LogItem) (store : Store) (driver : DriverKeys) (key : Key) (blob : List ℕ) → WasPut xs store driver key blob → WasPut (xs ++ ys) store driver key blob
put_goes_on xs ys store driver key blob put = (put.0, put.1, put.2, Contains-append_left xs ys _ put.3)
