-- The laws of expressions.
use Rattle.c_simulation.specs.Laws.{ConditionsFollow, ConditionsReach, PlacesFollow, PlacesReach, ValuesFollow, ValuesReach}
use Rattle.c_simulation.proofs.Expressions.{evaluates, places, tests}
use Rattle.c_simulation.proofs.Reaching.{place_reaches, test_reaches, value_reaches}

pub values_follow : ValuesFollow
values_follow w n sight bound now target low e k rs regs is h =
    evaluates w n sight h.knows bound now target h.store_is h.bounded low e k rs is h.pure h.typed h.letters h.taken regs h.anchored h.enough

pub places_follow : PlacesFollow
places_follow w n sight bound now target low e rs regs is h =
    places w n sight h.knows bound now target h.store_is h.bounded low e rs is h.pure h.typed h.letters h.taken regs h.anchored h.enough

pub conditions_follow : ConditionsFollow
conditions_follow w n sight bound now target low e k rs regs is h =
    tests w n sight h.knows bound now target h.store_is h.bounded low e k rs is h.pure h.typed h.letters h.taken regs h.anchored h.enough

pub values_reach : ValuesReach
values_reach w n sight bound now target low e k rs regs is h b = value_reaches w k now target _ regs _ _ _ _ h.bounded b (values_follow w n sight bound now target low e k rs regs is h)

pub places_reach : PlacesReach
places_reach w n sight bound now target low e rs regs is h b = place_reaches w _ now target _ regs _ _ _ _ h.bounded b (places_follow w n sight bound now target low e rs regs is h)

pub conditions_reach : ConditionsReach
conditions_reach w n sight bound now target low e k rs regs is h b = test_reaches w now target _ regs _ _ _ _ h.bounded b (conditions_follow w n sight bound now target low e k rs regs is h)
