use Rattle.std.proofs.Common.{◌≡◌, ◌≤◌, ℕ, ◌+◌, ◌*◌, Option, Some, None, List, ◌∷◌, [], length, refl, sym, ap, ◌∙◌, subst, arith}
use Rattle.std.specs.Prelude.{option_to_list, option_map, slice_get}
use Rattle.std.specs.List.{filter_map, cons_option}
use Rattle.indexmap.specs.IndexMap.{index_map_len}
use Rattle.queue_config.specs.Settings.{default_settings}
use Rattle.message.specs.Content.{ContentText}
use Rattle.journal.specs.declared.entry.Event.{Event}
use Rattle.journal.specs.declared.entry.Event.TheVariants.{Received, Changed, Deleted, DeletedAgain, Purged, Set, Settled, Orphaned, Closed}
use Rattle.queue_core.specs.declared.effect.Effect as effect
use Rattle.queue_core.specs.declared.effect.Change.{Change}
use Rattle.queue_core.specs.declared.effect.Change.TheVariants.{Nothing}
use Rattle.queue_core.specs.declared.index.MessageIndex.{MessageIndex}
use Rattle.queue_core.specs.declared.record.Record.{Record}
use Rattle.queue_core.specs.private.Effects.{changed_by}
use Rattle.queue_core.specs.Messages.{Birth, Effect, effect_of, opens}
use Rattle.queue_core.specs.private.Tally.{births}
use Rattle.queue_core.specs.private.Spending.{Costs, effect_adds, event_adds, left_count}
use Rattle.queue_core.specs.private.Records.{born_record, record_of_birth, hidden_until, received_at}
use Rattle.queue_core.specs.private.Applying.{HaveCounted, HasChanged, among, where_here, where_left, ended_by}
use Rattle.queue_core.proofs.records.AppliedLemmas.{alike-applied, can_apply-alike, birth-applied, received-applied, changed-applied, deleted-applied, purged-applied, set-applied, settled-applied, orphaned-applied, closed-applied, deleted_again-applied}
use Rattle.queue_core.proofs.Scans.{StandsAlone}
use Rattle.queue_core.proofs.PushLemmas.{fresh}
use Rattle.queue_core.proofs.costs.SpendingLemmas.{costs_none, costs_within, costs_then}
use Rattle.queue_core.proofs.index.MessageIndex.apply.Goals as goal

-- the effect of an event, by the change that it makes
told : (event : Event ContentText) (e : effect.Effect) (change : Change) → e.change ≡ change → effect_of event ≡ record (changed_by e.change e.birth) { settings = e.settings; opens = opens event }
    → effect_of event ≡ record (changed_by change e.birth) { settings = e.settings; opens = opens event }
told event e change is all = subst (λ (change : Change). effect_of event ≡ record (changed_by change e.birth) { settings = e.settings; opens = opens event }) is all

-- what it costs, by its effect
costs_by : (event : Event ContentText) (e : Effect ContentText) (begun more t t' : ℕ) (x y : MessageIndex) → effect_of event ≡ e → length e.births ≡ begun → more ≤ effect_adds (left_count x) e
    → Costs begun more t x t' y → Costs (births event) (event_adds (left_count x) event) t x t' y
costs_by event e begun more t t' x y is count adds costs =
    subst (λ (f : Effect ContentText). Costs (length f.births) (effect_adds (left_count x) f) t x t' y) (sym is)
    (subst (λ (n : ℕ). Costs n (effect_adds (left_count x) e) t x t' y) (sym count)
    (costs_within begun more (effect_adds (left_count x) e) t (index_map_len x.records) t' (index_map_len y.records) x.indices y.indices adds costs))

-- the birth of the message that is given
one_record : (o : Option Record) (kept : Record) → kept ∷ [] ≡ cons_option o [] → o ≡ Some kept
one_record None kept h = absurd cc
one_record (Some r) kept h = cc

birth_of : (at : ℕ) (kept : Record) (birth : Option (Birth ContentText)) → kept ∷ [] ≡ filter_map (record_of_birth at) (option_to_list birth) → (b : Birth ContentText) × (birth ≡ Some b) × (record_of_birth at b ≡ Some kept)
birth_of at kept None h = absurd cc
birth_of at kept (Some b) h = (b, refl, one_record (record_of_birth at b) kept h)

-- and where none is given, there is none
no_record : (at : ℕ) (b : Birth ContentText) (text : ContentText) → b.content ≡ Some text → [] ≡ cons_option (record_of_birth at b) [] → ⊥
no_record at b text has h =
    let one : ◌≡◌ {A = List Record} [] (born_record at b text ∷ []) = h ∙ ap (λ (o : Option ContentText). cons_option (option_map (born_record at b) o) []) has in
    absurd cc

no_birth : (at : ℕ) (event : Event ContentText) (birth : Option (Birth ContentText)) → StandsAlone event → option_to_list birth ≡ (effect_of event).births
    → [] ≡ filter_map (record_of_birth at) (option_to_list birth) → birth ≡ None
no_birth at event None alone is h = refl
no_birth at event (Some b) alone is h =
    let text = fresh event alone 0 b (ap (λ (bs : List (Birth ContentText)). slice_get bs 0) (sym is)) in
    absurd (no_record at b text.text text.contained h)

pub returns-in-Some : goal.returns-in-Some
returns-in-Some c =
    let at = c.args.at in let x = c.args.self.now in let y = c.begin.new.self in
    let birth = c.effect_of.result.birth in
    let given : c.in-Some.kept ∷ [] ≡ filter_map (record_of_birth at) (option_to_list birth) =
    ap option_to_list (sym c.in-Some.is) ∙ c.requires.born ∙ ap (filter_map (record_of_birth at)) (sym (c.effect_of.ensures.births c.requires.about.alone)) in
    let b = birth_of at c.in-Some.kept birth given in
    let is = subst (λ (birth : Option (Birth ContentText)). effect_of c.args.event.now ≡ record (changed_by Nothing birth) { settings = c.effect_of.result.settings; opens = opens c.args.event.now }) b.1
    (told c.args.event.now c.effect_of.result _ c.in-Nothing.is c.effect_of.ensures.change) in
    let done = birth-applied c.args.settings at c.args.event.now b.0 _ _ c.in-Some.kept x y c.requires.indexed is b.2 c.begin.ensures.indices c.begin.ensures.records c.begin.ensures.receives c.begin.ensures.leaving in
    record {
      indexed = done.indexed;
      records = done.records;
      receives = done.receives;
      leaving = done.leaving;
      cost = costs_by c.args.event.now _ 1 8 c.args.ticks.now c.begin.new.ticks x y is refl (omega arith) c.begin.ensures.cost;
    }

pub returns-in_default : goal.returns-in_default
returns-in_default c =
    let at = c.args.at in let x = c.args.self.now in
    let birth = c.effect_of.result.birth in
    let births = c.effect_of.ensures.births c.requires.about.alone in
    let none : birth ≡ None = no_birth at c.args.event.now birth c.requires.about.alone births (ap option_to_list (sym c.in_default.is) ∙ c.requires.born ∙ ap (filter_map (record_of_birth at)) (sym births)) in
    let is = subst (λ (birth : Option (Birth ContentText)). effect_of c.args.event.now ≡ record (changed_by Nothing birth) { settings = c.effect_of.result.settings; opens = opens c.args.event.now }) none
    (told c.args.event.now c.effect_of.result _ c.in-Nothing.is c.effect_of.ensures.change) in
    let done = alike-applied c.args.settings at c.args.event.now DeletedAgain _ _ is x x (deleted_again-applied c.args.settings at x c.requires.indexed) in
    record {
      indexed = done.indexed;
      records = done.records;
      receives = done.receives;
      leaving = done.leaving;
      cost = costs_by c.args.event.now _ 0 0 c.args.ticks.now c.args.ticks.now x x is refl (omega arith) (costs_none c.args.ticks.now (index_map_len x.records) x.indices);
    }

pub returns-in-Receive : goal.returns-in-Receive
returns-in-Receive c =
    let at = c.args.at in let s = c.args.settings in let x = c.args.self.now in let mid = c.depart_all.new.self in let y = c.offer_all.new.self in
    let offered = c.in-Receive.offered.now in let leaving = c.in-Receive.leaving.now in let target = c.in-Receive.target in let timeout = c.in-Receive.timeout in
    let other : Event ContentText = Received timeout offered leaving target in
    let is = told c.args.event.now c.effect_of.result _ c.in-Receive.is c.effect_of.ensures.change in
    let second = subst (λ (due : ℕ). HasChanged (among offered (λ r. Some (hidden_until due (received_at at r)))) mid y) c.after_seconds.ensures c.offer_all.ensures.change in
    let counted = subst (λ (old : List ℕ). HaveCounted offered old y.receives.items) c.depart_all.ensures.receives c.offer_all.ensures.receives in
    let done = alike-applied s at c.args.event.now other _ _ is x y
    (received-applied s at timeout target offered leaving x mid y c.requires.indexed (can_apply-alike s at c.args.event.now other _ _ is x c.requires.about) c.depart_all.ensures.change second counted
    (c.offer_all.ensures.leaving ∙ c.depart_all.ensures.leaving)) in
    record {
      indexed = done.indexed;
      records = done.records;
      receives = done.receives;
      leaving = done.leaving;
      cost = costs_by c.args.event.now _ 0 (0 + 6 * length offered) c.args.ticks.now c.offer_all.new.ticks x y is refl (omega arith)
          (costs_then 0 0 0 (6 * length offered) _ _ _ _ _ _ _ _ _ c.depart_all.ensures.cost c.offer_all.ensures.cost);
    }

pub returns-in-Reschedule : goal.returns-in-Reschedule
returns-in-Reschedule c =
    let is = told c.args.event.now c.effect_of.result _ c.in-Reschedule.is c.effect_of.ensures.change in
    let done = alike-applied c.args.settings c.args.at c.args.event.now (Changed c.in-Reschedule.number c.in-Reschedule.timeout) _ _ is c.args.self.now c.reschedule.new.self
    (changed-applied c.args.settings c.args.at c.args.self.now c.reschedule.new.self c.requires.indexed c.in-Reschedule.number c.in-Reschedule.timeout
    (subst (λ (due : ℕ). HasChanged (among (c.in-Reschedule.number ∷ []) (where_here (λ r. Some (hidden_until due r)))) c.args.self.now c.reschedule.new.self) c.after_seconds-in-Reschedule.ensures c.reschedule.ensures.change)
    c.reschedule.ensures.receives c.reschedule.ensures.leaving) in
    record {
      indexed = done.indexed;
      records = done.records;
      receives = done.receives;
      leaving = done.leaving;
      cost = costs_by c.args.event.now _ 0 6 c.args.ticks.now c.reschedule.new.ticks c.args.self.now c.reschedule.new.self is refl (omega arith) c.reschedule.ensures.cost;
    }

pub returns-in-Remove : goal.returns-in-Remove
returns-in-Remove c =
    let is = told c.args.event.now c.effect_of.result _ c.in-Remove.is c.effect_of.ensures.change in
    let done = alike-applied c.args.settings c.args.at c.args.event.now (Deleted c.in-Remove.number) _ _ is c.args.self.now c.delete.new.self
    (deleted-applied c.args.settings c.args.at c.args.self.now c.delete.new.self c.requires.indexed c.in-Remove.number c.delete.ensures.change c.delete.ensures.receives c.delete.ensures.leaving) in
    record {
      indexed = done.indexed;
      records = done.records;
      receives = done.receives;
      leaving = done.leaving;
      cost = costs_by c.args.event.now _ 0 0 c.args.ticks.now c.delete.new.ticks c.args.self.now c.delete.new.self is refl (omega arith) c.delete.ensures.cost;
    }

pub returns-in-RemoveAll : goal.returns-in-RemoveAll
returns-in-RemoveAll c =
    let is = told c.args.event.now c.effect_of.result _ c.in-RemoveAll.is c.effect_of.ensures.change in
    let done = alike-applied c.args.settings c.args.at c.args.event.now Purged _ _ is c.args.self.now c.purge.new.self
    (purged-applied c.args.settings c.args.at c.args.self.now c.purge.new.self c.requires.indexed c.purge.ensures.change c.purge.ensures.receives c.purge.ensures.leaving) in
    record {
      indexed = done.indexed;
      records = done.records;
      receives = done.receives;
      leaving = done.leaving;
      cost = costs_by c.args.event.now _ 0 0 c.args.ticks.now c.purge.new.ticks c.args.self.now c.purge.new.self is refl (omega arith) c.purge.ensures.cost;
    }

pub returns-in-EndPeriod : goal.returns-in-EndPeriod
returns-in-EndPeriod c =
    let is = told c.args.event.now c.effect_of.result _ c.in-EndPeriod.is c.effect_of.ensures.change in
    let done = alike-applied c.args.settings c.args.at c.args.event.now (Set default_settings) _ _ is c.args.self.now c.end_period.new.self
    (set-applied c.args.settings c.args.at c.args.self.now c.end_period.new.self c.requires.indexed default_settings
    (subst (λ (retention : ℕ). HasChanged (λ n. where_left (ended_by retention c.args.at)) c.args.self.now c.end_period.new.self) (ap (λ v. v.retention_seconds) c.settings.view_is) c.end_period.ensures.change)
    c.end_period.ensures.receives c.end_period.ensures.leaving) in
    record {
      indexed = done.indexed;
      records = done.records;
      receives = done.receives;
      leaving = done.leaving;
      cost = costs_by c.args.event.now _ 0 0 c.args.ticks.now c.end_period.new.ticks c.args.self.now c.end_period.new.self is refl (omega arith) c.end_period.ensures.cost;
    }

pub returns-in-Confirm : goal.returns-in-Confirm
returns-in-Confirm c =
    let is = told c.args.event.now c.effect_of.result _ c.in-Confirm.is c.effect_of.ensures.change in
    let done = alike-applied c.args.settings c.args.at c.args.event.now (Settled c.in-Confirm.number) _ _ is c.args.self.now c.confirm.new.self
    (settled-applied c.args.settings c.args.at c.args.self.now c.confirm.new.self c.requires.indexed c.in-Confirm.number c.confirm.ensures.change c.confirm.ensures.receives c.confirm.ensures.leaving) in
    record {
      indexed = done.indexed;
      records = done.records;
      receives = done.receives;
      leaving = done.leaving;
      cost = costs_by c.args.event.now _ 0 0 c.args.ticks.now c.confirm.new.ticks c.args.self.now c.confirm.new.self is refl (omega arith) c.confirm.ensures.cost;
    }

pub returns-in-BringBack : goal.returns-in-BringBack
returns-in-BringBack c =
    let is = told c.args.event.now c.effect_of.result _ c.in-BringBack.is c.effect_of.ensures.change in
    let done = alike-applied c.args.settings c.args.at c.args.event.now (Orphaned c.in-BringBack.target) _ _ is c.args.self.now c.bring_back.new.self
    (orphaned-applied c.args.settings c.args.at c.args.self.now c.bring_back.new.self c.requires.indexed c.in-BringBack.target c.bring_back.ensures.change c.bring_back.ensures.receives c.bring_back.ensures.leaving) in
    record {
      indexed = done.indexed;
      records = done.records;
      receives = done.receives;
      leaving = done.leaving;
      cost = costs_by c.args.event.now _ 0 (8 * left_count c.args.self.now c.in-BringBack.target) c.args.ticks.now c.bring_back.new.ticks c.args.self.now c.bring_back.new.self is refl (omega arith) c.bring_back.ensures.cost;
    }

pub returns-in-Close : goal.returns-in-Close
returns-in-Close c =
    let is = told c.args.event.now c.effect_of.result _ c.in-Close.is c.effect_of.ensures.change in
    let done = alike-applied c.args.settings c.args.at c.args.event.now Closed _ _ is c.args.self.now c.close.new.self
    (closed-applied c.args.settings c.args.at c.args.self.now c.close.new.self c.requires.indexed c.close.ensures.change c.close.ensures.receives c.close.ensures.leaving) in
    record {
      indexed = done.indexed;
      records = done.records;
      receives = done.receives;
      leaving = done.leaving;
      cost = costs_by c.args.event.now _ 0 0 c.args.ticks.now c.close.new.ticks c.args.self.now c.close.new.self is refl (omega arith) c.close.ensures.cost;
    }
