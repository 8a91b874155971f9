use Rattle.once_across_breaks_code.proofs.OfRun.Whole.{runs-are, runs-hold, runs-take-effect, sole-runs-are, sole-runs-hold, sole-runs-take-effect}
use Rattle.once_across_breaks_code.proofs.run.laws.runs_are_schedules.Goals as goal

pub returns-clause-runs : goal.returns-clause-runs
returns-clause-runs c = runs-are (record {
  feed = record {
    server = record {
      tokens = record { read = c.effects_are_those_of_the_history.ensures.read; tokens = c.effects_are_those_of_the_history.ensures.carried };
      keeps = c.what_is_under_way_fits.ensures.keeps;
      in_order = c.tellers_are_asked_in_order.ensures.among;
      scripts = c.links_go_as_the_law_says_among_others.ensures.scripts;
      quiets = c.links_go_as_the_law_says_among_others.ensures.quiets;
      partings = c.links_go_as_the_law_says_among_others.ensures.partings;
    };
    have = c.pieces_that_are_fed_do_as_the_law_says.ensures.pieces;
    arrive = c.links_go_as_the_law_says_among_others.ensures.pieces;
    carry = c.frames_are_those_of_the_law.ensures.written;
    good_requests = c.frames_are_those_of_the_law.ensures.good;
    good = c.what_is_under_way_fits.ensures.good;
    one = c.commands_take_effect_once_in_order.ensures.frames;
    waiting = c.commands_take_effect_once_in_order.ensures.waiting;
  };
  client = record {
    keeps = c.what_is_under_way_fits.ensures.keeps;
    one = c.commands_take_effect_once_in_order.ensures.frames;
    waiting = c.commands_take_effect_once_in_order.ensures.waiting;
    decides = c.the_next_frame_decides.ensures.frame;
    same_bytes = c.one_frame.ensures.bytes;
    spelling = c.read_again.ensures.spelling;
    calls = c.calls_are_commands.ensures.calls;
    breaks = c.steps_are_those_of_the_law.ensures.breaks;
    begins = c.steps_are_those_of_the_law.ensures.begins;
    asks = c.steps_are_those_of_the_law.ensures.asks;
    replies = c.steps_are_those_of_the_law.ensures.replies;
  };
  starts = c.what_is_under_way_fits.ensures.starts;
  once = c.commands_take_effect_once_in_order.ensures.carried;
  effects = c.effects_are_those_of_the_history.ensures.same;
  sole = c.tellers_are_asked_in_order.ensures.alone;
  drawn = c.tokens_are_drawn.ensures;
})

pub returns-clause-alone : goal.returns-clause-alone
returns-clause-alone c = sole-runs-are (record {
  feed = record {
    server = record {
      tokens = record { read = c.effects_are_those_of_the_history.ensures.read; tokens = c.effects_are_those_of_the_history.ensures.carried };
      keeps = c.what_is_under_way_fits.ensures.keeps;
      in_order = c.tellers_are_asked_in_order.ensures.among;
      scripts = c.links_go_as_the_law_says_among_others.ensures.scripts;
      quiets = c.links_go_as_the_law_says_among_others.ensures.quiets;
      partings = c.links_go_as_the_law_says_among_others.ensures.partings;
    };
    have = c.pieces_that_are_fed_do_as_the_law_says.ensures.pieces;
    arrive = c.links_go_as_the_law_says_among_others.ensures.pieces;
    carry = c.frames_are_those_of_the_law.ensures.written;
    good_requests = c.frames_are_those_of_the_law.ensures.good;
    good = c.what_is_under_way_fits.ensures.good;
    one = c.commands_take_effect_once_in_order.ensures.frames;
    waiting = c.commands_take_effect_once_in_order.ensures.waiting;
  };
  client = record {
    keeps = c.what_is_under_way_fits.ensures.keeps;
    one = c.commands_take_effect_once_in_order.ensures.frames;
    waiting = c.commands_take_effect_once_in_order.ensures.waiting;
    decides = c.the_next_frame_decides.ensures.frame;
    same_bytes = c.one_frame.ensures.bytes;
    spelling = c.read_again.ensures.spelling;
    calls = c.calls_are_commands.ensures.calls;
    breaks = c.steps_are_those_of_the_law.ensures.breaks;
    begins = c.steps_are_those_of_the_law.ensures.begins;
    asks = c.steps_are_those_of_the_law.ensures.asks;
    replies = c.steps_are_those_of_the_law.ensures.replies;
  };
  starts = c.what_is_under_way_fits.ensures.starts;
  once = c.commands_take_effect_once_in_order.ensures.carried;
  effects = c.effects_are_those_of_the_history.ensures.same;
  sole = c.tellers_are_asked_in_order.ensures.alone;
  drawn = c.tokens_are_drawn.ensures;
})

pub returns-clause-once : goal.returns-clause-once
returns-clause-once c = runs-take-effect (record {
  feed = record {
    server = record {
      tokens = record { read = c.effects_are_those_of_the_history.ensures.read; tokens = c.effects_are_those_of_the_history.ensures.carried };
      keeps = c.what_is_under_way_fits.ensures.keeps;
      in_order = c.tellers_are_asked_in_order.ensures.among;
      scripts = c.links_go_as_the_law_says_among_others.ensures.scripts;
      quiets = c.links_go_as_the_law_says_among_others.ensures.quiets;
      partings = c.links_go_as_the_law_says_among_others.ensures.partings;
    };
    have = c.pieces_that_are_fed_do_as_the_law_says.ensures.pieces;
    arrive = c.links_go_as_the_law_says_among_others.ensures.pieces;
    carry = c.frames_are_those_of_the_law.ensures.written;
    good_requests = c.frames_are_those_of_the_law.ensures.good;
    good = c.what_is_under_way_fits.ensures.good;
    one = c.commands_take_effect_once_in_order.ensures.frames;
    waiting = c.commands_take_effect_once_in_order.ensures.waiting;
  };
  client = record {
    keeps = c.what_is_under_way_fits.ensures.keeps;
    one = c.commands_take_effect_once_in_order.ensures.frames;
    waiting = c.commands_take_effect_once_in_order.ensures.waiting;
    decides = c.the_next_frame_decides.ensures.frame;
    same_bytes = c.one_frame.ensures.bytes;
    spelling = c.read_again.ensures.spelling;
    calls = c.calls_are_commands.ensures.calls;
    breaks = c.steps_are_those_of_the_law.ensures.breaks;
    begins = c.steps_are_those_of_the_law.ensures.begins;
    asks = c.steps_are_those_of_the_law.ensures.asks;
    replies = c.steps_are_those_of_the_law.ensures.replies;
  };
  starts = c.what_is_under_way_fits.ensures.starts;
  once = c.commands_take_effect_once_in_order.ensures.carried;
  effects = c.effects_are_those_of_the_history.ensures.same;
  sole = c.tellers_are_asked_in_order.ensures.alone;
  drawn = c.tokens_are_drawn.ensures;
})

pub returns-clause-once_alone : goal.returns-clause-once_alone
returns-clause-once_alone c = sole-runs-take-effect (record {
  feed = record {
    server = record {
      tokens = record { read = c.effects_are_those_of_the_history.ensures.read; tokens = c.effects_are_those_of_the_history.ensures.carried };
      keeps = c.what_is_under_way_fits.ensures.keeps;
      in_order = c.tellers_are_asked_in_order.ensures.among;
      scripts = c.links_go_as_the_law_says_among_others.ensures.scripts;
      quiets = c.links_go_as_the_law_says_among_others.ensures.quiets;
      partings = c.links_go_as_the_law_says_among_others.ensures.partings;
    };
    have = c.pieces_that_are_fed_do_as_the_law_says.ensures.pieces;
    arrive = c.links_go_as_the_law_says_among_others.ensures.pieces;
    carry = c.frames_are_those_of_the_law.ensures.written;
    good_requests = c.frames_are_those_of_the_law.ensures.good;
    good = c.what_is_under_way_fits.ensures.good;
    one = c.commands_take_effect_once_in_order.ensures.frames;
    waiting = c.commands_take_effect_once_in_order.ensures.waiting;
  };
  client = record {
    keeps = c.what_is_under_way_fits.ensures.keeps;
    one = c.commands_take_effect_once_in_order.ensures.frames;
    waiting = c.commands_take_effect_once_in_order.ensures.waiting;
    decides = c.the_next_frame_decides.ensures.frame;
    same_bytes = c.one_frame.ensures.bytes;
    spelling = c.read_again.ensures.spelling;
    calls = c.calls_are_commands.ensures.calls;
    breaks = c.steps_are_those_of_the_law.ensures.breaks;
    begins = c.steps_are_those_of_the_law.ensures.begins;
    asks = c.steps_are_those_of_the_law.ensures.asks;
    replies = c.steps_are_those_of_the_law.ensures.replies;
  };
  starts = c.what_is_under_way_fits.ensures.starts;
  once = c.commands_take_effect_once_in_order.ensures.carried;
  effects = c.effects_are_those_of_the_history.ensures.same;
  sole = c.tellers_are_asked_in_order.ensures.alone;
  drawn = c.tokens_are_drawn.ensures;
})

pub returns-clause-tokens : goal.returns-clause-tokens
returns-clause-tokens c = runs-hold (record {
  feed = record {
    server = record {
      tokens = record { read = c.effects_are_those_of_the_history.ensures.read; tokens = c.effects_are_those_of_the_history.ensures.carried };
      keeps = c.what_is_under_way_fits.ensures.keeps;
      in_order = c.tellers_are_asked_in_order.ensures.among;
      scripts = c.links_go_as_the_law_says_among_others.ensures.scripts;
      quiets = c.links_go_as_the_law_says_among_others.ensures.quiets;
      partings = c.links_go_as_the_law_says_among_others.ensures.partings;
    };
    have = c.pieces_that_are_fed_do_as_the_law_says.ensures.pieces;
    arrive = c.links_go_as_the_law_says_among_others.ensures.pieces;
    carry = c.frames_are_those_of_the_law.ensures.written;
    good_requests = c.frames_are_those_of_the_law.ensures.good;
    good = c.what_is_under_way_fits.ensures.good;
    one = c.commands_take_effect_once_in_order.ensures.frames;
    waiting = c.commands_take_effect_once_in_order.ensures.waiting;
  };
  client = record {
    keeps = c.what_is_under_way_fits.ensures.keeps;
    one = c.commands_take_effect_once_in_order.ensures.frames;
    waiting = c.commands_take_effect_once_in_order.ensures.waiting;
    decides = c.the_next_frame_decides.ensures.frame;
    same_bytes = c.one_frame.ensures.bytes;
    spelling = c.read_again.ensures.spelling;
    calls = c.calls_are_commands.ensures.calls;
    breaks = c.steps_are_those_of_the_law.ensures.breaks;
    begins = c.steps_are_those_of_the_law.ensures.begins;
    asks = c.steps_are_those_of_the_law.ensures.asks;
    replies = c.steps_are_those_of_the_law.ensures.replies;
  };
  starts = c.what_is_under_way_fits.ensures.starts;
  once = c.commands_take_effect_once_in_order.ensures.carried;
  effects = c.effects_are_those_of_the_history.ensures.same;
  sole = c.tellers_are_asked_in_order.ensures.alone;
  drawn = c.tokens_are_drawn.ensures;
})

pub returns-clause-tokens_alone : goal.returns-clause-tokens_alone
returns-clause-tokens_alone c = sole-runs-hold (record {
  feed = record {
    server = record {
      tokens = record { read = c.effects_are_those_of_the_history.ensures.read; tokens = c.effects_are_those_of_the_history.ensures.carried };
      keeps = c.what_is_under_way_fits.ensures.keeps;
      in_order = c.tellers_are_asked_in_order.ensures.among;
      scripts = c.links_go_as_the_law_says_among_others.ensures.scripts;
      quiets = c.links_go_as_the_law_says_among_others.ensures.quiets;
      partings = c.links_go_as_the_law_says_among_others.ensures.partings;
    };
    have = c.pieces_that_are_fed_do_as_the_law_says.ensures.pieces;
    arrive = c.links_go_as_the_law_says_among_others.ensures.pieces;
    carry = c.frames_are_those_of_the_law.ensures.written;
    good_requests = c.frames_are_those_of_the_law.ensures.good;
    good = c.what_is_under_way_fits.ensures.good;
    one = c.commands_take_effect_once_in_order.ensures.frames;
    waiting = c.commands_take_effect_once_in_order.ensures.waiting;
  };
  client = record {
    keeps = c.what_is_under_way_fits.ensures.keeps;
    one = c.commands_take_effect_once_in_order.ensures.frames;
    waiting = c.commands_take_effect_once_in_order.ensures.waiting;
    decides = c.the_next_frame_decides.ensures.frame;
    same_bytes = c.one_frame.ensures.bytes;
    spelling = c.read_again.ensures.spelling;
    calls = c.calls_are_commands.ensures.calls;
    breaks = c.steps_are_those_of_the_law.ensures.breaks;
    begins = c.steps_are_those_of_the_law.ensures.begins;
    asks = c.steps_are_those_of_the_law.ensures.asks;
    replies = c.steps_are_those_of_the_law.ensures.replies;
  };
  starts = c.what_is_under_way_fits.ensures.starts;
  once = c.commands_take_effect_once_in_order.ensures.carried;
  effects = c.effects_are_those_of_the_history.ensures.same;
  sole = c.tellers_are_asked_in_order.ensures.alone;
  drawn = c.tokens_are_drawn.ensures;
})
