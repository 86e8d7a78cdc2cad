mod FourStates
