use Rattle.device_model.specs.Places.{only}
use Rattle.device_model.specs.Happens.{transitions_of}
use Rattle.device_model.proofs.Traces.{leads_beginning}
use Rattle.device_model.proofs.Counts.{owned_at}
use Rattle.device_model.proofs.trace_laws.the_promise_is_kept.Goals as goal

pub returns : goal.returns
returns c = λ old trace w r.
    let ds = transitions_of old trace w r.runs in
    let lead = c.a_trace_is_that_of_its_transitions.ensures.leads old trace w r in
    record {
      transitions = record {
        told = c.a_trace_is_that_of_its_transitions.ensures.told old trace w r;
        lead = lead;
        world = c.a_trace_is_that_of_its_transitions.ensures.world old trace w r;
      };
      histories = c.histories_are_told.ensures old trace w r;
      entered = c.tasks_enter_once.ensures old trace w r;
      answers = c.answers_are_true.ensures old trace w r;
      logs = c.logs_are_lawful.ensures old trace w r;
      chains = record {
        stands = λ t. c.each_chain_stands_in_one_place.ensures.stands (only t) old trace w r;
        once = λ t. c.each_chain_stands_in_one_place.ensures.once t old trace w r;
      };
      order = c.commands_keep_their_order.ensures old trace w r;
      functions = c.functions_end_after_their_tasks.ensures old trace w r;
      memory = c.memory_is_that_of_the_writes.ensures old trace w r;
      none_lost = c.none_is_lost.ensures old trace w r;
      owned = λ past b. owned_at old past r.opens (leads_beginning old past ds b lead);
      events = c.events_are_given_in_order.ensures old trace w r;
    }
