mod LeastFault
