-- What every step keeps is so after each list of steps, and what every opening keeps is so at the beginning.
use Rattle.std.proofs.Common.{ℕ, false, List, [], ◌∷◌, refl}
use Rattle.std.specs.Prelude.{⊤, fold}
use Rattle.queue_config.specs.Config.{Configuration, rules_of}
use Rattle.queue_config.specs.declared.config.ConfiguredAlarm.{ConfiguredAlarm}
use Rattle.queue_config.specs.declared.config.ConfiguredQueue.{ConfiguredQueue}
use Rattle.redrive.specs.House.{House, empty_house, with_queue, next_queue, new_house}
use Rattle.redrive.specs.History.{AllQueues}
use Rattle.redrive.specs.HouseSteps.{HouseAnswer}
use Rattle.redrive.specs.HistorySteps.{HistoryStep}
use Rattle.redrive.specs.WholeSteps.{whole_after_step, whole_after_steps}
use Rattle.redrive.specs.Places.{IsSpared, NoRelayDeleted}
use Rattle.redrive.proofs.transfers.Journals.{Line}
use Rattle.redrive.proofs.transfers.Views.{View, view_of, Grows, IsOpened, Change}
use Rattle.redrive.proofs.transfers.Houses.{IsFresh, LeadsTo, IsEnding, Ends, history-led, opening, opened-grows, opened-is, opened-fresh}

-- each deletion of a list is answered as it is done
abbrev pub AreEnding : AllQueues → List HistoryStep → List HouseAnswer → Type 0
AreEnding all [] answers = ⊤
AreEnding all (step ∷ steps) [] = ⊤
AreEnding all (step ∷ steps) (answer ∷ answers) = Ends all step answer × AreEnding (whole_after_step all step answer) steps answers

module _ (P : View → Type 0) where
  -- what is so of the beginning
  pub record Begins (w : House) : Type 0 where
    pub fresh : IsFresh (record { house = w; deleted = [] })
    pub so : P (view_of (record { house = w; deleted = [] }))

  begins-with : ((v v' : View) (u : ℕ) (e : Line) → Grows v v' u e → IsOpened v v' u e → P v → P v') → (at : ℕ) (alarms : List ConfiguredAlarm) (queues : List ConfiguredQueue) (w : House) → Begins w
      → Begins (fold (λ w q. with_queue w (next_queue w at q.name q.settings (rules_of alarms w.next_uid))) w queues)
  begins-with f at alarms [] w h = h
  begins-with f at alarms (q ∷ queues) w h =
      let all : AllQueues = record { house = w; deleted = [] } in
      begins-with f at alarms queues (with_queue w (next_queue w at q.name q.settings (rules_of alarms w.next_uid)))
      (record {
        fresh = opened-fresh all at q.name q.settings (rules_of alarms w.next_uid) h.fresh;
        so = f (view_of all) (view_of (record { house = with_queue w (next_queue w at q.name q.settings (rules_of alarms w.next_uid)); deleted = [] })) w.next_uid (opening all at q.name q.settings (rules_of alarms w.next_uid) h.fresh)
            (opened-grows all at q.name q.settings (rules_of alarms w.next_uid) h.fresh) (opened-is all at q.name q.settings (rules_of alarms w.next_uid) h.fresh) h.so;
      })

  pub begins : ((v v' : View) (u : ℕ) (e : Line) → Grows v v' u e → IsOpened v v' u e → P v → P v') → P (record { is_open = λ u. false; lines = λ u. [] }) → (config : Configuration) (at : ℕ)
      → Begins (new_house config at)
  begins f h config at =
      begins-with f at config.alarms config.queues (empty_house config.limits) (record { fresh = record { none_there = λ u l. refl; none_deleted = λ u l. refl }; so = h })

  pub through : ((all : AllQueues) (step : HistoryStep) (answer : HouseAnswer) → Change (IsEnding step answer) (view_of all) (view_of (whole_after_step all step answer)) → P (view_of all) → P (view_of (whole_after_step all step answer)))
      → (all : AllQueues) (steps : List HistoryStep) (answers : List HouseAnswer) → AreEnding all steps answers → IsFresh all → P (view_of all) → P (view_of (whole_after_steps all steps answers))
  through f all [] answers are fresh h = h
  through f all (step ∷ steps) [] are fresh h = h
  through f all (step ∷ steps) (answer ∷ answers) are fresh h =
      let led : LeadsTo (IsEnding step answer) all (whole_after_step all step answer) = history-led all step answer fresh are.0 in
      through f (whole_after_step all step answer) steps answers are.1 led.fresh (f all step answer led.change h)

-- what every step keeps that spares relays is so after each list of such steps
pub through_spared : (P : AllQueues → Type 0)
    → ((all : AllQueues) (step : HistoryStep) (answer : HouseAnswer) → Change (IsEnding step answer) (view_of all) (view_of (whole_after_step all step answer)) → IsSpared all step answer → P all → P (whole_after_step all step answer))
    → (all : AllQueues) (steps : List HistoryStep) (answers : List HouseAnswer) → AreEnding all steps answers → NoRelayDeleted all steps answers → IsFresh all → P all → P (whole_after_steps all steps answers)
through_spared P f all [] answers are spared fresh h = h
through_spared P f all (step ∷ steps) [] are spared fresh h = h
through_spared P f all (step ∷ steps) (answer ∷ answers) are spared fresh h =
    let led : LeadsTo (IsEnding step answer) all (whole_after_step all step answer) = history-led all step answer fresh are.0 in
    through_spared P f (whole_after_step all step answer) steps answers are.1 spared.1 led.fresh (f all step answer led.change spared.0 h)
